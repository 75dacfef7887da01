use Rattle.std.proofs.Common.{◌≡◌, ◌+◌, ◌*◌, length, get_or, ap, ap₂, sym, ◌∙◌, arith, rules}
use Rattle.std.proofs.Math.Nat.{mul-le-mul_left}
use Rattle.lj_induced.proofs.Sums.{sum_more, weighted_sum-more}
use Rattle.lj_induced.proofs.rows.price_of.Goals as goal

pub loop-l-preserved : goal.loop-l-preserved
loop-l-preserved c =
    let inv = c.loop-l.invariant in
    let n = c.loop-l.l in
    let count = c.from.ensures in
    let price = get_or c.args.prices.now n 0 in
    let len : length c.args.prices.now ≡ 26 = search rules in
    let most = mul-le-mul_left (get_or c.args.row.now.counts n 0) (c.requires.small n) in
    let next = sum_more n c.args.row.now.counts (omega (arith, inv.len, c.loop-l-test.true)) in
    let same = ap (λ m. m * price) count in
    record {
      price = ap₂ (λ m k. m + k * price) inv.price count
          ∙ sym (weighted_sum-more n c.args.row.now.counts c.args.prices.now (omega (arith, len, c.loop-l-test.true)));
      small = let small = inv.small in omega arith;
      len = inv.len;
    }
