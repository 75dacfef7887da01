use Rattle.lj_relax.proofs.Fixing.{accepted_same, one_price, published_same}
use Rattle.lj_relax.proofs.laws.steps_fix_the_next_state.Goals as goal

pub returns-clause-price : goal.returns-clause-price
returns-clause-price c = one_price

pub returns-clause-accepted : goal.returns-clause-accepted
returns-clause-accepted c = accepted_same

pub returns-clause-published : goal.returns-clause-published
returns-clause-published c = published_same
