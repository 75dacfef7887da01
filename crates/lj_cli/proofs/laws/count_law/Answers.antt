use Rattle.lj_cli.proofs.Counting.{greedy_remains, remains, sums}
use Rattle.lj_cli.proofs.laws.count_law.Goals as goal

pub returns-clause-excess : goal.returns-clause-excess
returns-clause-excess c = sums c.excess_law.ensures c.schonheim_bounds.ensures.covering

pub returns-clause-reduced : goal.returns-clause-reduced
returns-clause-reduced c =
    remains c.reduced_law.ensures.covers c.reduced_law.ensures.needed c.reduced_law.ensures.sublist

pub returns-clause-greedy : goal.returns-clause-greedy
returns-clause-greedy c =
    greedy_remains c.reduced_law.ensures.covers c.reduced_law.ensures.needed c.reduced_law.ensures.sublist
    c.greedy_law.ensures
