use Rattle.std.proofs.Common.{arith, refl, ◌∙◌}
use Rattle.lj_base.specs.Bounds.{at_cell}
use Rattle.lj_product.specs.Sides.{cell_of}
use Rattle.lj_product.proofs.Tails.{below_first, below_skip, below_more}
use Rattle.lj_product.proofs.parts.least_starting_at.Goals as goal
use Rattle.lj_product.proofs.parts.least_starting_at.Goals.{then-low-high, else-low-high}

pub loop-b-init : goal.loop-b-init
loop-b-init c =
    let cell = c.requires.sides.inside.cell in
    below_first _ _ _ _ _ _ _ _ cell.2 c.requires.from c.requires.to
    (omega (arith, c.max.ensures, c.saturating_sub-lowest.ensures)) (omega (arith, c.min-high.ensures))
    (record { least = c.least_over_points.ensures.least; taken = c.least_over_points.ensures.taken })
    (c.least_over_points.ensures.single refl)

pub loop-b-preserved : goal.loop-b-preserved
loop-b-preserved c =
    let cell = c.requires.sides.inside.cell in
    let order = c.loop-b.auto.b in
    let to = c.loop-b-test.true in
    let bounds = at_cell c.args.frame c.args.bounds.now in
    let d = cell_of c.args.s in
    let v1 = c.args.s.v1 in
    let low = c.max-low.result in
    let high = c.min-high.result in
    elim c.if-low-high.branch [
      | then-low-high w ↦
          let m = w.least_over_points-then-low-high.result in
          below_more bounds d v1 c.args.a c.loop-b.b low high m c.loop-b.least c.if-low-high.least c.args.tails.now
          cell.2 c.requires.from (omega arith) (omega (arith, c.min-hi.ensures))
          (omega (arith, c.max-low.ensures, c.saturating_sub-lowest.ensures)) (omega (arith, c.min-high.ensures))
          (record {
            least = w.least_over_points-then-low-high.ensures.least;
            taken =
                w.least_over_points-then-low-high.ensures.taken;
          }) c.loop-b.invariant (w.least-is ∙ w.min-least.ensures)
      | else-low-high w ↦
          below_skip bounds d v1 c.args.a c.loop-b.b low high c.loop-b.least c.if-low-high.least c.args.tails.now cell.2
          (omega (arith, c.max-low.ensures, c.saturating_sub-lowest.ensures)) (omega (arith, c.min-high.ensures))
          w.if-low-high.false c.loop-b.invariant w.least-is
    ]
