use Rattle.lj_cover.proofs.CutsOfBlocks.{both_are_tested, point_is_tested}
use Rattle.lj_cover.proofs.laws.cuts.points_are_tested.Goals as goal

pub returns-clause-point : goal.returns-clause-point
returns-clause-point c = point_is_tested

pub returns-clause-both : goal.returns-clause-both
returns-clause-both c = both_are_tested
