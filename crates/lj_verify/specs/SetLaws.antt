-- What is known of ranks and of the sets of a block's points, as one record.
use Rattle.lj_rank.specs.Ranks.{RankLaws, SubsetLaws}

pub record SetLaws : Type 0 where
  pub ranks : RankLaws
  pub subsets : SubsetLaws
