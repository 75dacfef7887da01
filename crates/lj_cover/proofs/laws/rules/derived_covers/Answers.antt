use Rattle.lj_cover.proofs.DerivedRules.{derived_covers}
use Rattle.lj_cover.proofs.laws.rules.derived_covers.Goals as goal

pub returns : goal.returns
returns c = derived_covers
