use Rattle.lj_base.specs.Bounds.{at_cell}
use Rattle.lj_product.proofs.Choosing.{least_of_all}
use Rattle.lj_product.proofs.products.best_product.Goals as goal

pub returns-clause-least : goal.returns-clause-least
returns-clause-least c =
    let choice = c.choice_with.ensures in
    least_of_all c.args.frame (at_cell c.args.frame c.args.bounds.now) c.args.cell c.in_ok-sides.sides
    c.in_ok-sides.field-0-1 c.choice_with.result c.in_ok-sides.ensures.least choice.chosen choice.least
