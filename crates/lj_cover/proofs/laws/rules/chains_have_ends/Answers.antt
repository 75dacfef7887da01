use Rattle.lj_cover.proofs.PartsInOrder.{Chain-few, Chain-joined, Chain-last, Chain-le, Chain-within}
use Rattle.lj_cover.proofs.laws.rules.chains_have_ends.Goals as goal

pub returns-clause-order : goal.returns-clause-order
returns-clause-order c = Chain-le

pub returns-clause-within : goal.returns-clause-within
returns-clause-within c = Chain-within

pub returns-clause-last : goal.returns-clause-last
returns-clause-last c = Chain-last

pub returns-clause-few : goal.returns-clause-few
returns-clause-few c = Chain-few

pub returns-clause-joined : goal.returns-clause-joined
returns-clause-joined c = Chain-joined
