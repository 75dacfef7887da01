use Rattle.std.proofs.Common.{◌≡◌, ◌+◌, ◌*◌, ◌<◌, drop, length, take}
use Rattle.lj_cover.specs.BlockLists.{join_blocks}
use Rattle.lj_expand.proofs.filling.unite_all.Given as goal

abbrev pub invariant-loop-j : goal.invariant-loop-j
invariant-loop-j l = record {
  len : length l.out ≡ length l.fn.out;
  done : take l.j l.out ≡ take l.j (drop l.from (join_blocks l.v1 l.firsts l.seconds));
  at : l.row * length l.seconds + l.place ≡ l.from + l.j;
  inside : l.place < length l.seconds;
}
