use Rattle.lj_greedy.proofs.GreedyLists.{Covers-greedy}
use Rattle.lj_greedy.proofs.laws.greedy_law.Goals as goal

pub returns : goal.returns
returns c = Covers-greedy c.points_are_tested.ensures.point c.rank_law.ensures c.tally_law.ensures.ranks
    c.tally_law.ensures.at c.multiplicity_law.ensures.some
