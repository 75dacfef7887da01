use Rattle.std.proofs.Common.{◌<◌, ◌≤◌, length, get_or, sym, ap, subst, ◌∙◌, arith}
use Rattle.std.proofs.lemmas.List.{take_all}
use Rattle.std.specs.List.{All}
use Rattle.lj_base.specs.Bounds.{at_cell}
use Rattle.lj_base.specs.declared.Row.{Row}
use Rattle.lj_cover.specs.Instances.{row_price}
use Rattle.lj_induced.proofs.Cheapest.{least_more, priced}
use Rattle.lj_induced.proofs.rows.best_induced.Goals as goal
use Rattle.lj_induced.proofs.rows.best_induced.Goals.{then-price-cost, else-price-cost}

pub loop-i-init : goal.loop-i-init
loop-i-init c =
    let bounds = at_cell c.args.frame c.args.bounds.now in
    let rows = c.args.rows.now in
    let prices = c.cut_prices-prices.ensures in
    let inside : 0 < length rows = grind (arith, c.is_empty.ensures, c.if-is_empty.false) in
    let here = priced c.args.frame bounds c.args.cell rows 0 _ c.cut_prices-prices.result c.price_of-cost.result
    inside c.requires.rows prices.prices c.price_of-cost.ensures.len prices.len c.price_of-cost.ensures.price in
    record {
      place = omega arith;
      cost = here;
      least = λ k d below. least_more (λ (row : Row). row_price bounds c.args.cell row.counts) rows 0 d
          c.price_of-cost.result
          c.price_of-cost.result c.price_of-cost.result inside (λ j e none. absurd (omega arith)) here (omega arith)
          (omega arith) k d below;
    }

pub loop-i-preserved : goal.loop-i-preserved
loop-i-preserved c =
    let bounds = at_cell c.args.frame c.args.bounds.now in
    let rows = c.args.rows.now in
    let prices = c.cut_prices-prices.ensures in
    let inv = c.loop-i.invariant in
    let price = λ (row : Row). row_price bounds c.args.cell row.counts in
    let inside : c.loop-i.i < length rows = omega (arith, c.loop-i-test.true, c.loop-i.auto.i-end) in
    let here =
    priced c.args.frame bounds c.args.cell rows c.loop-i.i _ c.cut_prices-prices.result c.price_of-price.result
    inside c.requires.rows prices.prices c.price_of-price.ensures.len prices.len c.price_of-price.ensures.price in
    elim c.if-price-cost.branch [
      | then-price-cost w ↦ record {
        place = omega (arith, w.place-is);
        cost = λ d. ap (λ n. price (get_or rows n d)) w.place-is ∙ here d ∙ sym w.cost-is;
        least = λ k d below. least_more price rows c.loop-i.i d c.loop-i.cost c.price_of-price.result
            c.if-price-cost.cost inside
            inv.least here (omega (arith, w.cost-is, w.if-price-cost.true)) (omega (arith, w.cost-is)) k d below;
      }
      | else-price-cost w ↦ record {
        place = omega (arith, w.place-is, inv.place);
        cost = λ d. ap (λ n. price (get_or rows n d)) w.place-is ∙ inv.cost d ∙ sym w.cost-is;
        least = λ k d below. least_more price rows c.loop-i.i d c.loop-i.cost c.price_of-price.result
            c.if-price-cost.cost inside
            inv.least here (omega (arith, w.cost-is)) (omega (arith, w.cost-is, w.if-price-cost.false)) k d below;
      }
    ]

pub returns-clause-least : goal.returns-clause-least
returns-clause-least c =
    let bounds = at_cell c.args.frame c.args.bounds.now in
    let inv = c.loop-i.invariant in
    let inside : 0 < length c.args.rows.now = grind (arith, c.is_empty.ensures, c.if-is_empty.false) in
    let end' = c.loop-i.auto.i-end inside in
    let all = take_all c.loop-i.i c.args.rows.now (omega (arith, c.loop-i-test.false)) in
    record {
      chosen = record { place = omega (arith, inv.place, end'); cost_is = inv.cost };
      least = subst (All (λ (row : Row). c.loop-i.cost ≤ row_price bounds c.args.cell row.counts)) all inv.least;
    }
