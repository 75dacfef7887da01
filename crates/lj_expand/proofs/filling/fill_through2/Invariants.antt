use Rattle.std.proofs.Common.{◌≡◌, ◌++◌, ◌-◌, ◌≤◌, drop, length, take}
use Rattle.lj_cover.specs.BlockLists.{derived2_blocks}
use Rattle.lj_expand.proofs.filling.fill_through2.Given as goal

abbrev pub invariant-loop-done : goal.invariant-loop-done
invariant-loop-done l = record {
  len : length l.out ≡ length l.fn.out;
  upto : l.done ≤ length l.out;
  rest : take l.done l.out ++ derived2_blocks l.x l.y (drop l.place l.source) ≡ derived2_blocks l.x l.y
      (drop l.start l.source);
}

abbrev pub decreases-loop-done : goal.decreases-loop-done
decreases-loop-done l = length l.source - l.place
