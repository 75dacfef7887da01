use Rattle.std.proofs.Common.{[]}
use Rattle.lj_cover.proofs.CutSizes.{sizes_are_of_cuts, sizes_ascend, sizes_by_row, sizes_small}
use Rattle.lj_cover.proofs.InducedRule.{at_size_is}
use Rattle.lj_cover.proofs.laws.cuts.sizes_of_cuts.Goals as goal

pub returns-clause-sizes : goal.returns-clause-sizes
returns-clause-sizes c = sizes_are_of_cuts

pub returns-clause-ascend : goal.returns-clause-ascend
returns-clause-ascend c = sizes_ascend

pub returns-clause-by_row : goal.returns-clause-by_row
returns-clause-by_row c = sizes_by_row

pub returns-clause-costs : goal.returns-clause-costs
returns-clause-costs c = λ f sizes. at_size_is f sizes 0

pub returns-clause-lists : goal.returns-clause-lists
returns-clause-lists c = λ f sizes. at_size_is f sizes []

pub returns-clause-small : goal.returns-clause-small
returns-clause-small c = sizes_small
