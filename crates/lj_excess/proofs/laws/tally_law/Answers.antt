use Rattle.lj_excess.proofs.SetRanks.{length-multiplicities, multiplicities-at_rank, set_of_rank}
use Rattle.lj_excess.proofs.laws.tally_law.Goals as goal

pub returns-clause-count : goal.returns-clause-count
returns-clause-count c = length-multiplicities

pub returns-clause-at : goal.returns-clause-at
returns-clause-at c = multiplicities-at_rank c.rank_law.ensures

pub returns-clause-ranks : goal.returns-clause-ranks
returns-clause-ranks c = set_of_rank c.rank_law.ensures c.sets_law.ensures.members
