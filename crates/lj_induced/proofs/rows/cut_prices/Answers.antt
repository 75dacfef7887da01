use Rattle.std.proofs.Common.{sym, ap, ◌∙◌, refl, arith}
use Rattle.lj_base.specs.Bounds.{at_cell}
use Rattle.lj_cover.specs.Rules.{triple}
use Rattle.lj_induced.proofs.Sums.{cut_cost-free, get_or-zeros}
use Rattle.lj_induced.proofs.rows.cut_prices.Goals as goal

pub loop-l-init : goal.loop-l-init
loop-l-init c =
    let sets = ap (λ d. d.t) c.cell.view_is in
    record {
      prices = λ n few. get_or-zeros 26 n ∙ sym (cut_cost-free c.args.cell.t c.args.cell.k
          (at_cell c.args.frame c.args.bounds.now (triple n c.args.cell.k c.args.cell.t)) n (omega (arith, sets)));
      small = λ n. let zero_is = get_or-zeros 26 n in omega (arith, zero_is);
      len = refl;
    }

pub returns-clause-prices : goal.returns-clause-prices
returns-clause-prices c = λ l points blocks.
    let most = c.most_points-l-end.ensures.most l points blocks in
    let sets = c.most_points-l-end.ensures.sets in
    c.loop-l.invariant.prices l (omega (arith, most, c.loop-l-test.false))
