use Rattle.lj_cover.proofs.ElementaryRules.{lower_covers}
use Rattle.lj_cover.proofs.laws.rules.lower_covers.Goals as goal

pub returns : goal.returns
returns c = lower_covers
