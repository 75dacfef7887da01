use Rattle.std.proofs.Common.{◌+◌, ◌-◌, ◌*◌, ◌/◌, ◌<◌, ◌≤◌, length}
use Rattle.lj_deriv.specs.Nodes.{step_tree}
use Rattle.lj_deriv.specs.Positions.{before, tree_source}
use Rattle.lj_expand.proofs.positions.last_count.Given as goal

abbrev pub invariant-loop-low : goal.invariant-loop-low
invariant-loop-low l = record {
  order : l.low < l.high;
  end : l.high ≤ length (tree_source (step_tree l.plan l.node)) / 64 + 1;
  upto : before (step_tree l.plan l.node) (64 * l.low) ≤ l.i;
  past : 64 * l.high ≤ length (tree_source (step_tree l.plan l.node))
      → l.i < before (step_tree l.plan l.node) (64 * l.high);
}

abbrev pub decreases-loop-low : goal.decreases-loop-low
decreases-loop-low l = l.high - l.low
