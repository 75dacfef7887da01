use Rattle.std.proofs.Common.{◌≡◌, ◌*◌, ◌<◌, ap₂, arith, length}
use Rattle.lj_expand.specs.Positions.{part_at, part_cost}
use Rattle.lj_expand.proofs.Joins.{factors-at, rest-all, rest-here, rest-next}
use Rattle.lj_expand.proofs.positions.part_spot.Goals as goal

pub loop-place-init : goal.loop-place-init
loop-place-init c = rest-all _ _ _ c.requires.below c.requires.small

pub cost_of-requires : goal.cost_of-requires
cost_of-requires c =
    (factors-at (λ j. j < length c.args.plan.now.rules) c.args.parts.now c.loop-place.place c.loop-place-test.true
    c.requires.there).0

pub cost_of-requires-in-loop-place : goal.cost_of-requires-in-loop-place
cost_of-requires-in-loop-place c = (factors-at
    (λ j. j < length c.args.plan.now.rules) c.args.parts.now c.loop-place.place c.loop-place-test.true
    c.requires.there).1

pub returns-then-offset-cost : goal.returns-then-offset-cost
returns-then-offset-cost c =
    let cost : c.cost_of.result * c.cost_of-in-loop-place.result ≡ part_cost c.args.plan.now
    (part_at c.args.parts.now c.loop-place.place) = ap₂
    (λ m n. m * n) c.cost_of.ensures.cost c.cost_of-in-loop-place.ensures.cost in
    rest-here c.args.plan.now c.args.parts.now c.args.i c.loop-place.place c.loop-place.offset c.loop-place-test.true
    c.loop-place.invariant (omega (arith, c.if-offset-cost.true, cost))

pub loop-place-preserved : goal.loop-place-preserved
loop-place-preserved c =
    let cost : c.cost_of.result * c.cost_of-in-loop-place.result ≡ part_cost c.args.plan.now
    (part_at c.args.parts.now c.loop-place.place) = ap₂
    (λ m n. m * n) c.cost_of.ensures.cost c.cost_of-in-loop-place.ensures.cost in
    rest-next c.expansion_covers.ensures.counts c.args.plan.now c.args.parts.now c.args.i c.loop-place.place
    c.loop-place.offset _ c.loop-place-test.true c.loop-place.invariant (omega (arith, c.if-offset-cost.false, cost))
