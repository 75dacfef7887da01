use Rattle.lj_cover.proofs.ElementaryRules.{drop_covers}
use Rattle.lj_cover.proofs.laws.rules.drop_covers.Goals as goal

pub returns : goal.returns
returns c = drop_covers
