use Rattle.lj_cover.proofs.CutSizes.{count_is, counts_add_up, counts_end, length-cut_counts}
use Rattle.lj_cover.proofs.laws.cuts.rows_count_blocks.Goals as goal

pub returns-clause-sizes : goal.returns-clause-sizes
returns-clause-sizes c = length-cut_counts

pub returns-clause-count : goal.returns-clause-count
returns-clause-count c = count_is

pub returns-clause-sum : goal.returns-clause-sum
returns-clause-sum c = counts_add_up

pub returns-clause-end : goal.returns-clause-end
returns-clause-end c = counts_end
