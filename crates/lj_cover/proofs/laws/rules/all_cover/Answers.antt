use Rattle.lj_base.proofs.Ascending.{length-sets}
use Rattle.lj_cover.proofs.BasesCover.{all_cover}
use Rattle.lj_cover.proofs.laws.rules.all_cover.Goals as goal

pub returns-clause-covers : goal.returns-clause-covers
returns-clause-covers c = all_cover

pub returns-clause-counts : goal.returns-clause-counts
returns-clause-counts c = length-sets
