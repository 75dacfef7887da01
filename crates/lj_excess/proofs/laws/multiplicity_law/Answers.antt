use Rattle.lj_excess.proofs.ContainedSets.{multiplicity-joined, multiplicity-most, sets_are_tested, some_is_counted}
use Rattle.lj_excess.proofs.laws.multiplicity_law.Goals as goal

pub returns-clause-within : goal.returns-clause-within
returns-clause-within c = sets_are_tested c.points_are_tested.ensures.point

pub returns-clause-some : goal.returns-clause-some
returns-clause-some c = some_is_counted c.points_are_tested.ensures.point

pub returns-clause-most : goal.returns-clause-most
returns-clause-most c = multiplicity-most

pub returns-clause-joined : goal.returns-clause-joined
returns-clause-joined c = multiplicity-joined
