use Rattle.lj_cover.proofs.ElementaryRules.{grow_covers}
use Rattle.lj_cover.proofs.laws.rules.grow_covers.Goals as goal

pub returns : goal.returns
returns c = grow_covers
