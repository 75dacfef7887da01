use Rattle.std.proofs.Common.{get_or, sym, subst}
use Rattle.std.specs.Option.{IfSome}
use Rattle.lj_base.specs.Bounds.{at_cell}
use Rattle.lj_cover.specs.Instances.{price, row_price}
use Rattle.lj_cover.specs.Rules.{Product}
use Rattle.lj_relax.specs.Steps.{IsAtMost, IsPrice}
use Rattle.lj_relax.specs.Tickets.{snapshot}
use Rattle.lj_relax.proofs.Merging.{found_price, least_of_kinds, price_of}
use Rattle.lj_relax.proofs.prices.least_price.Goals as goal

pub returns : goal.returns
returns c =
    let frame = c.args.frame in
    let rows = c.args.rows.now in
    let bounds = at_cell frame c.args.bounds.now in
    let a = snapshot frame c.args.cell c.args.bounds.now rows in
    let one = c.least_elementary.ensures in
    let two = c.product_price-product.ensures in
    let three = c.least_induced.ensures in
    let both = c.lesser.ensures in
    let all = c.lesser-2.ensures in
    let first = subst (λ x. IfSome x (IsPrice frame a)) (sym c.cost-elementary.ensures)
    (found_price frame a c.least_elementary.result (one.instance rows)) in
    let third = subst (λ x. IfSome x (IsPrice frame a)) (sym c.cost-induced.ensures)
    (found_price frame a c.least_induced.result three.instance) in
    least_of_kinds frame a c.lesser-2.result
    (price_of frame a c.lesser.result c.cost-induced.result c.lesser-2.result
    (price_of frame a c.cost-elementary.result c.product_price-product.result c.lesser.result first (two.price rows)
    both.one)
    third all.one)
    (λ r is i. all.first (price bounds r) (both.first (price bounds r)
    (subst (λ x. IsAtMost x (price bounds r)) (sym c.cost-elementary.ensures) (one.least r is i))))
    (λ v1 parts i.
    let n = price bounds (Product c.args.cell v1 parts) in
    all.first n (both.second n (two.least v1 parts i)))
    (λ k row inside.
    let n = row_price bounds c.args.cell (get_or rows k row).counts in
    all.second n (subst (λ x. IsAtMost x n) (sym c.cost-induced.ensures) (three.least k row inside)))
