use Rattle.lj_base.specs.Bounds.{at_cell}
use Rattle.lj_cover.specs.Instances.{price}
use Rattle.lj_cover.specs.Rules.{Product}
use Rattle.lj_relax.specs.Tickets.{snapshot}
use Rattle.lj_relax.proofs.Merging.{least_found, one_of}
use Rattle.lj_relax.proofs.prices.least_instance.Goals as goal

pub returns : goal.returns
returns c =
    let frame = c.args.frame in
    let rows = c.args.rows.now in
    let bounds = at_cell frame c.args.bounds.now in
    let a = snapshot frame c.args.cell c.args.bounds.now rows in
    let one = c.least_elementary-elementary.ensures in
    let two = c.least_product-product.ensures in
    let three = c.least_induced-induced.ensures in
    let both = c.cheaper.ensures in
    let all = c.cheaper-2.ensures in
    least_found frame a c.cheaper-2.result
    (one_of frame a _ _ _ (one_of frame a _ _ _ (one.instance rows) (two.instance rows) both.one) three.instance
    all.one)
    (λ r is i. all.first (price bounds r) (both.first (price bounds r) (one.least r is i)))
    (λ v1 parts i.
    let n = price bounds (Product c.args.cell v1 parts) in
    all.first n (both.second n (two.least v1 parts i)))
    (λ k d inside. all.second _ (three.least k d inside))
