use Rattle.lj_base.specs.Bounds.{at_cell}
use Rattle.lj_product.proofs.Choosing.{least_price_of_all}
use Rattle.lj_product.proofs.products.best_product_price.Goals as goal

pub returns-clause-least : goal.returns-clause-least
returns-clause-least c =
    least_price_of_all c.args.frame (at_cell c.args.frame c.args.bounds.now) c.args.cell c.in_ok-price.field-0-0
    c.in_ok-price.price c.requires.inside c.in_ok-price.ensures.least
