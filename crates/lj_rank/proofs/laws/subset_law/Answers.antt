use Rattle.lj_rank.proofs.Subsets.{Ascends-subset, IsSubset-cases, subset-count}
use Rattle.lj_rank.proofs.laws.subset_law.Goals as goal

pub returns : goal.returns
returns c = record {
  below = Ascends-subset;
  count = λ v t b s few ascends h. subset-count v b few ascends t s h;
  cases = IsSubset-cases;
}
