use Rattle.std.proofs.Common.{arith, ◌+◌, ◌-◌, ◌<◌, length, refl, ap, sym, subst, ◌∙◌, get_or}
use Rattle.std.proofs.lemmas.List.{length-set}
use Rattle.lj_base.specs.Bounds.{at_cell}
use Rattle.lj_product.specs.Parts.{part}
use Rattle.lj_product.specs.Products.{chosen_parts}
use Rattle.lj_product.specs.Sides.{cell_of}
use Rattle.lj_product.proofs.Chains.{IsUpTo, tail_below, parts_inside, price_is, up_to_more, up_to_end}
use Rattle.lj_product.proofs.Choosing.{chosen_push}
use Rattle.lj_product.proofs.Places.{has_prices}
use Rattle.lj_product.proofs.products.choice_with.Goals as goal

pub fill_tails-requires-clause-numbers : goal.fill_tails-requires-clause-numbers
fill_tails-requires-clause-numbers c =
    has_prices c.choose_product_law.ensures.most c.choose_product_law.ensures.small c.choose_law.ensures.small
    c.args.frame c.args.bounds.now c.args.s c.requires.bounds c.requires.sides
    (c.index_law.ensures.below c.args.frame) c.index_law.ensures.size

pub part_at_price-part-requires-clause-numbers : goal.part_at_price-part-requires-clause-numbers
part_at_price-part-requires-clause-numbers c =
    has_prices c.choose_product_law.ensures.most c.choose_product_law.ensures.small c.choose_law.ensures.small
    c.args.frame c.args.bounds.now c.args.s c.requires.bounds c.requires.sides
    (c.index_law.ensures.below c.args.frame) c.index_law.ensures.size

pub loop-a-preserved : goal.loop-a-preserved
loop-a-preserved c =
    let bounds = at_cell c.args.frame c.args.bounds.now in
    let inv = c.loop-a.invariant in
    let len = inv.len in
    let few = inv.few in
    let from = inv.from in
    let hi = c.min-hi.ensures in
    let lo = c.saturating_sub-lo.ensures in
    let test = c.loop-a-test.true in
    let cell = c.requires.sides.inside.cell in
    let small = cell.5 in
    let x = c.part_at_price-part.result in
    let p = part x.a x.b x.l in
    let e = c.part_at_price-part.ensures.first in
    let i = c.part_at_price-part.ensures.part in
    let order = i.order in
    let to = i.to in
    let inside : c.loop-a.count < length c.loop-a.parts = omega arith in
    let more =
    up_to_more bounds (cell_of c.args.s) c.args.s.v1 c.fill_tails.new.tails c.loop-a.a p
    (chosen_parts c.loop-a.parts c.loop-a.count) inv.up_to i e c.part_at_price-part.ensures.price in
    record {
      up_to = subst (IsUpTo bounds (cell_of c.args.s) c.args.s.v1 c.fill_tails.new.tails (x.b + 1))
          (sym (chosen_push c.loop-a.parts c.loop-a.count x inside)) more;
      few = omega arith;
      from = omega arith;
      most = omega arith;
      len = length-set _ _ _ ∙ len;
    }

pub returns-clause-chosen : goal.returns-clause-chosen
returns-clause-chosen c =
    let bounds = at_cell c.args.frame c.args.bounds.now in
    let d = cell_of c.args.s in
    let v1 = c.args.s.v1 in
    let inv = c.loop-a.invariant in
    let few = inv.few in
    let most = inv.most in
    let hi = c.min-hi.ensures in
    let lo = c.saturating_sub-lo.ensures in
    let test = c.loop-a-test.false in
    let s = c.requires.sides in
    let small = s.inside.cell.5 in
    let r = up_to_end bounds d v1 c.fill_tails.new.tails c.loop-a.a (chosen_parts c.loop-a.parts c.loop-a.count)
    s.first_side s.second_side c.fill_tails.ensures.tails (omega arith) inv.up_to in
    let e = ap (λ n. get_or c.fill_tails.new.tails n 0) lo in
    record {
      count = omega arith;
      instance = record {
        step = tt;
        cell_is = refl;
        condition = r.0;
        children_inside =
            parts_inside c.args.frame d v1 (d.t - (d.v - v1)) s.inside s.first_side s.second_side (omega arith)
            (chosen_parts c.loop-a.parts c.loop-a.count) r.0.chain r.0.fits;
        upload_from = tt;
      };
      cost_is = r.1 ∙ sym e;
    }

pub returns-clause-least : goal.returns-clause-least
returns-clause-least c = λ parts h.
    let bounds = at_cell c.args.frame c.args.bounds.now in
    let d = cell_of c.args.s in
    let low =
    tail_below bounds d c.args.s.v1 (d.t - (d.v - c.args.s.v1)) c.fill_tails.new.tails
    c.fill_tails.ensures.tails (omega arith) parts h.chain h.fits in
    let is = price_is bounds d c.args.s.v1 parts in
    let e = ap (λ n. get_or c.fill_tails.new.tails n 0) c.saturating_sub-lo.ensures in
    omega (arith, low, is, e)
