use Rattle.lj_excess.proofs.DoubleCounting.{excess-is}
use Rattle.lj_excess.proofs.laws.excess_law.Goals as goal

pub returns : goal.returns
returns c = excess-is c.points_are_tested.ensures.point c.sets_law.ensures.members
