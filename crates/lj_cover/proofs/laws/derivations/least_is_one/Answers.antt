use Rattle.lj_cover.proofs.LeastCosts.{least_by_members, least_one}
use Rattle.lj_cover.proofs.laws.derivations.least_is_one.Goals as goal

pub returns-clause-one : goal.returns-clause-one
returns-clause-one c = least_one

pub returns-clause-by_members : goal.returns-clause-by_members
returns-clause-by_members c = least_by_members
