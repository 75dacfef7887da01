use Rattle.std.proofs.Common.{inl, inr, ⊎_elim}
use Rattle.lj_base.specs.Bounds.{at_cell}
use Rattle.lj_cover.specs.Instances.{price}
use Rattle.lj_cover.specs.Rules.{Product}
use Rattle.lj_relax.specs.Tickets.{snapshot}
use Rattle.lj_relax.proofs.Merging.{least_found, none_below, one_of}
use Rattle.lj_relax.proofs.prices.instance_below.Goals as goal

pub returns-then-is_below-clause-least : goal.returns-then-is_below-clause-least
returns-then-is_below-clause-least c =
    let frame = c.args.frame in
    let rows = c.args.rows.now in
    let bounds = at_cell frame c.args.bounds.now in
    let a = snapshot frame c.args.cell c.args.bounds.now rows in
    let one = c.least_elementary-elementary.ensures in
    let two = c.product_below-product.ensures in
    let three = c.least_induced-induced.ensures in
    let both = c.cheaper.ensures in
    let all = c.cheaper-found.ensures in
    least_found frame a c.cheaper-found.result
    (one_of frame a _ _ _ (one_of frame a _ _ _ (one.instance rows) (two.instance rows) both.one) three.instance
    all.one)
    (λ r is i. all.first (price bounds r) (both.first (price bounds r) (one.least r is i)))
    (λ v1 parts i.
    let n = price bounds (Product c.args.cell v1 parts) in
    ⊎_elim (λ low. all.first n (both.second n low)) (λ high. c.is_below.ensures.yes c.if-is_below.true n high)
    (two.least v1 parts i))
    (λ k d inside. all.second _ (three.least k d inside))

pub returns-else-is_below-clause-none : goal.returns-else-is_below-clause-none
returns-else-is_below-clause-none c = λ e.
    let frame = c.args.frame in
    let rows = c.args.rows.now in
    let bounds = at_cell frame c.args.bounds.now in
    let a = snapshot frame c.args.cell c.args.bounds.now rows in
    let one = c.least_elementary-elementary.ensures in
    let two = c.product_below-product.ensures in
    let three = c.least_induced-induced.ensures in
    let both = c.cheaper.ensures in
    let all = c.cheaper-found.ensures in
    none_below frame a _ c.args.limit (c.is_below.ensures.no c.if-is_below.false)
    (λ r is i. all.first (price bounds r) (both.first (price bounds r) (one.least r is i)))
    (λ v1 parts i.
    let n = price bounds (Product c.args.cell v1 parts) in
    ⊎_elim (λ low. inl (all.first n (both.second n low))) (λ high. inr high) (two.least v1 parts i))
    (λ k d inside. all.second _ (three.least k d inside))
