use Rattle.lj_cover.proofs.BlockwiseRules.{blocks_join, cost_adds_up, length-gives, shares_within}
use Rattle.lj_cover.proofs.laws.rules.blockwise_rules_join.Goals as goal

pub returns-clause-blocks : goal.returns-clause-blocks
returns-clause-blocks c = blocks_join

pub returns-clause-cost : goal.returns-clause-cost
returns-clause-cost c = cost_adds_up

pub returns-clause-shares : goal.returns-clause-shares
returns-clause-shares c = length-gives

pub returns-clause-within : goal.returns-clause-within
returns-clause-within c = shares_within
