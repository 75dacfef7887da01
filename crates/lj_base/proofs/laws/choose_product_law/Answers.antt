use Rattle.lj_base.proofs.Choices.{choose-multiply, choose-products}
use Rattle.lj_base.proofs.laws.choose_product_law.Goals as goal

pub returns : goal.returns
returns c = record { most = choose-multiply; small = choose-products }
