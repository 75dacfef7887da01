use Rattle.std.proofs.Common.{arith, ◌≡◌, ◌+◌, ◌-◌, [], refl, ap, sym, subst, get_or, min}
use Rattle.lj_base.specs.Bounds.{at_cell}
use Rattle.lj_cover.specs.Rules.{Product}
use Rattle.lj_cover.specs.Instances.{price}
use Rattle.lj_product.specs.Sides.{cell_of}
use Rattle.lj_product.proofs.Chains.{tail_below, tail_taken, price_is, up_to_none}
use Rattle.lj_product.proofs.Places.{has_prices}
use Rattle.lj_product.proofs.products.least_with.Goals as goal

pub fill_tails-requires-clause-numbers : goal.fill_tails-requires-clause-numbers
fill_tails-requires-clause-numbers c =
    has_prices c.choose_product_law.ensures.most c.choose_product_law.ensures.small c.choose_law.ensures.small
    c.args.frame c.args.bounds.now c.args.s c.requires.bounds c.requires.sides
    (c.index_law.ensures.below c.args.frame) c.index_law.ensures.size

pub returns-clause-least : goal.returns-clause-least
returns-clause-least c = λ parts h.
    let bounds = at_cell c.args.frame c.args.bounds.now in
    let d = cell_of c.args.s in
    let low =
    tail_below bounds d c.args.s.v1 (d.t - (d.v - c.args.s.v1)) c.fill_tails.new.tails
    c.fill_tails.ensures.tails (omega arith) parts h.chain h.fits in
    let is = price_is bounds d c.args.s.v1 parts in
    let e = ap (λ n. get_or c.fill_tails.new.tails n 0) c.saturating_sub.ensures in
    omega (arith, low, is, e)

pub returns-clause-taken : goal.returns-clause-taken
returns-clause-taken c =
    let bounds = at_cell c.args.frame c.args.bounds.now in
    let d = cell_of c.args.s in
    let s = c.requires.sides in
    let split = s.second_side in
    let sets = s.inside.cell.2 in
    let lo = d.t - (d.v - c.args.s.v1) in
    let t = tail_taken (min d.t c.args.s.v1 + 1) bounds d c.args.s.v1 c.fill_tails.new.tails lo [] s.first_side
    s.second_side c.fill_tails.ensures.tails (omega arith) (omega arith) (omega arith)
    (up_to_none bounds d c.args.s.v1 c.fill_tails.new.tails lo refl) in
    let e = ap (λ n. get_or c.fill_tails.new.tails n 0) c.saturating_sub.ensures in
    (t.0, t.1, subst (λ n. price bounds (Product d c.args.s.v1 t.0) ≡ n) (sym e) t.2)
