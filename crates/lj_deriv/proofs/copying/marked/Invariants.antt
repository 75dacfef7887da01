use Rattle.std.proofs.Common.{◌≤◌}
use Rattle.lj_deriv.specs.Copies.{IsMarkedFrom}
use Rattle.lj_deriv.proofs.copying.marked.Given as goal

abbrev pub invariant-loop-node : goal.invariant-loop-node
invariant-loop-node l = record {
  within : l.node ≤ l.end;
  marks : IsMarkedFrom l.arena l.roots l.end l.node l.marks.items;
}

abbrev pub decreases-loop-node : goal.decreases-loop-node
decreases-loop-node l = l.node
