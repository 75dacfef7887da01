use Rattle.lj_cover.proofs.ElementaryRules.{add_covers}
use Rattle.lj_cover.proofs.laws.rules.add_covers.Goals as goal

pub returns : goal.returns
returns c = add_covers
