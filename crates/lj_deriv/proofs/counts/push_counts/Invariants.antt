use Rattle.std.proofs.Common.{◌≡◌, ◌+◌, ◌*◌}
use Rattle.lj_deriv.specs.Nodes.{node_tree}
use Rattle.lj_deriv.specs.Positions.{AreAppended, before}
use Rattle.lj_deriv.proofs.counts.push_counts.Given as goal

abbrev pub invariant-loop-j : goal.invariant-loop-j
invariant-loop-j l = record {
  appended : AreAppended (node_tree l.arena l.node) l.fn.counts.items l.counts.items (l.j + 1);
  sum : l.sum ≡ before (node_tree l.arena l.node) (64 * l.j);
}
