use Rattle.std.proofs.Common.{◌≡◌, ◌++◌, ◌-◌, ◌≤◌, length, take}
use Rattle.lj_blockfile.specs.BlockFiles.{blocks_text}
use Rattle.lj_cover.specs.Derivations.{expand}
use Rattle.lj_deriv.specs.Nodes.{plan_tree}
use Rattle.lj_expand.proofs.write.append_plan.Given as goal

abbrev pub invariant-loop-done : goal.invariant-loop-done
invariant-loop-done l = record {
  room : length l.batch ≡ 128;
  lines : length l.lines ≡ 9600;
  upto : l.done ≤ l.cost;
  text : l.out.items ≡ l.fn.out.items ++ blocks_text (take l.done (expand (plan_tree l.plan)));
}

abbrev pub decreases-loop-done : goal.decreases-loop-done
decreases-loop-done l = l.cost - l.done
