use Rattle.lj_cover.proofs.BasesCover.{one_covers}
use Rattle.lj_cover.proofs.laws.rules.one_covers.Goals as goal

pub returns : goal.returns
returns c = one_covers
