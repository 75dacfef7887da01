use Rattle.std.proofs.Common.{◌≡◌, ◌+◌, ◌<◌, drop, length, take}
use Rattle.lj_base.specs.Blocks.{IsBlock}
use Rattle.lj_base.specs.Colex.{sets}
use Rattle.lj_expand.specs.Positions.{with_first}
use Rattle.lj_rank.specs.Ranks.{rank_of}
use Rattle.lj_expand.proofs.filling.fill_all.Given as goal

abbrev pub invariant-loop-j : goal.invariant-loop-j
invariant-loop-j l = record {
  len : length l.out ≡ length l.fn.out;
  done : take l.j l.out ≡ take l.j (drop l.i (sets l.v l.k));
  block : IsBlock l.v l.k (with_first l.first l.set);
  rank : l.j < length l.fn.out → rank_of (with_first l.first l.set) ≡ l.i + l.j;
}
