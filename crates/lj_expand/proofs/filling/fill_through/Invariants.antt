use Rattle.std.proofs.Common.{◌≡◌, ◌++◌, ◌-◌, ◌≤◌, drop, length, take}
use Rattle.lj_cover.specs.BlockLists.{derived_blocks}
use Rattle.lj_expand.proofs.filling.fill_through.Given as goal

abbrev pub invariant-loop-done : goal.invariant-loop-done
invariant-loop-done l = record {
  len : length l.out ≡ length l.fn.out;
  upto : l.done ≤ length l.out;
  rest : take l.done l.out ++ derived_blocks l.x (drop l.place l.source) ≡ derived_blocks l.x (drop l.start l.source);
}

abbrev pub decreases-loop-done : goal.decreases-loop-done
decreases-loop-done l = length l.source - l.place
