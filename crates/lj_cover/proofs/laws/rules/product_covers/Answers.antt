use Rattle.lj_cover.proofs.ProductRule.{product_covers}
use Rattle.lj_cover.proofs.laws.rules.product_covers.Goals as goal

pub returns : goal.returns
returns c = product_covers
