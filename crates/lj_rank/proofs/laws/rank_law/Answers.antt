use Rattle.std.proofs.Common.{ap, arith, refl}
use Rattle.lj_base.specs.Colex.{choose}
use Rattle.lj_rank.specs.Ranks.{rank_of}
use Rattle.lj_rank.proofs.RankCounts.{rank-below, rank-push}
use Rattle.lj_rank.proofs.SetList.{sets-place}
use Rattle.lj_rank.proofs.laws.rank_law.Goals as goal

pub returns : goal.returns
returns c = record {
  place = λ v k s h. sets-place v k (rank_of s) s h refl;
  below = λ v k s h. omega (arith, rank-below v s h.0, ap (choose v) h.1);
  push = rank-push;
}
