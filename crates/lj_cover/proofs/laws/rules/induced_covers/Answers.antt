use Rattle.lj_cover.proofs.InducedRule.{induced_covers}
use Rattle.lj_cover.proofs.laws.rules.induced_covers.Goals as goal

pub returns : goal.returns
returns c = induced_covers
