use Rattle.lj_cover.proofs.DerivedRules.{derived2_covers}
use Rattle.lj_cover.proofs.laws.rules.derived2_covers.Goals as goal

pub returns : goal.returns
returns c = derived2_covers
