use Rattle.lj_cover.proofs.BlockwiseRules.{blocks_of_larger, cost_of_larger}
use Rattle.lj_cover.proofs.laws.cuts.larger_cuts_have_children.Goals as goal

pub returns-clause-cost : goal.returns-clause-cost
returns-clause-cost c = cost_of_larger

pub returns-clause-blocks : goal.returns-clause-blocks
returns-clause-blocks c = blocks_of_larger
