use Rattle.lj_deriv.proofs.Positions.{before-grows, before-le, before-more, before-whole}
use Rattle.lj_deriv.proofs.laws.before_law.Goals as goal

pub returns-clause-within : goal.returns-clause-within
returns-clause-within c d n = before-le c.blockwise_rules_join.ensures.within d n

pub returns-clause-more : goal.returns-clause-more
returns-clause-more c d n inside = before-more d n inside

pub returns-clause-grows : goal.returns-clause-grows
returns-clause-grows c d m n order = before-grows d m n order

pub returns-clause-whole : goal.returns-clause-whole
returns-clause-whole c r ds h = before-whole c.blockwise_rules_join.ensures.cost r ds h
