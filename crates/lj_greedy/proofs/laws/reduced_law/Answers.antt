use Rattle.lj_greedy.proofs.ReducedLists.{Covers-reduced, length-reduced, needed-reduced, reduced_sublist}
use Rattle.std.proofs.Common.{[]}
use Rattle.lj_greedy.proofs.laws.reduced_law.Goals as goal

pub returns-clause-covers : goal.returns-clause-covers
returns-clause-covers c = Covers-reduced c.multiplicity_law.ensures.within c.sets_law.ensures.members

pub returns-clause-needed : goal.returns-clause-needed
returns-clause-needed c = needed-reduced c.multiplicity_law.ensures.within c.sets_law.ensures.members

pub returns-clause-sublist : goal.returns-clause-sublist
returns-clause-sublist c = λ cell bs. reduced_sublist cell [] bs

pub returns-clause-shorter : goal.returns-clause-shorter
returns-clause-shorter c = length-reduced
