use Rattle.lj_cover.proofs.CutsOfBlocks.{Ascends-cut, length-cut, length-cut_below, points_of_cut}
use Rattle.lj_cover.proofs.laws.cuts.points_of_cuts.Goals as goal

pub returns-clause-points : goal.returns-clause-points
returns-clause-points c = points_of_cut

pub returns-clause-ascends : goal.returns-clause-ascends
returns-clause-ascends c = λ lo v w. Ascends-cut w lo v

pub returns-clause-shorter : goal.returns-clause-shorter
returns-clause-shorter c = length-cut

pub returns-clause-narrow : goal.returns-clause-narrow
returns-clause-narrow c = length-cut_below
