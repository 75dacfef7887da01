use Rattle.lj_base.specs.Bounds.{at_cell}
use Rattle.lj_product.proofs.Choosing.{least_of_all}
use Rattle.lj_product.proofs.products.best_product_below.Goals as goal

pub returns-then-price-limit-clause-least : goal.returns-then-price-limit-clause-least
returns-then-price-limit-clause-least c =
    let choice = c.choice_with.ensures in
    least_of_all c.args.frame (at_cell c.args.frame c.args.bounds.now) c.args.cell c.in_ok-sides.sides
    c.in_ok-sides.price c.choice_with.result c.in_ok-sides.ensures.least choice.chosen choice.least
