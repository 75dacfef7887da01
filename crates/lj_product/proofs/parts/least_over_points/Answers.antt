use Rattle.std.proofs.Common.{arith}
use Rattle.lj_product.proofs.Searching.{least_min}
use Rattle.lj_product.proofs.parts.least_over_points.Goals as goal

pub price_at-price-requires-clause-part : goal.price_at-price-requires-clause-part
price_at-price-requires-clause-part c =
    c.requires.parts c.loop-l.l (omega (arith, c.loop-l.auto.l))
    (omega (arith, c.loop-l-test.true, c.loop-l.auto.l-end))

pub loop-l-preserved : goal.loop-l-preserved
loop-l-preserved c =
    least_min _ _ _ _ _ _ _ (omega (arith, c.loop-l.auto.l)) c.loop-l.invariant c.price_at-price.ensures.price
    c.min-least.ensures
