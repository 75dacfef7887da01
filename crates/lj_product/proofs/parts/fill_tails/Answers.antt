use Rattle.std.proofs.Common.{arith, ◌+◌, ◌-◌, ◌<◌, length, ◌∙◌}
use Rattle.std.proofs.lemmas.List.{length-set}
use Rattle.lj_base.specs.Bounds.{at_cell}
use Rattle.lj_product.specs.Sides.{cell_of}
use Rattle.lj_product.proofs.Tails.{tails_next, small_more}
use Rattle.lj_product.proofs.parts.fill_tails.Goals as goal

pub loop-i-preserved : goal.loop-i-preserved
loop-i-preserved c =
    let cell = c.requires.sides.inside.cell in
    let inv = c.loop-i.invariant in
    let len = inv.len in
    let hi = c.min-hi.ensures in
    let test = c.loop-i-test.true in
    let few : c.min-hi.result - c.loop-i.i < 10 = omega (arith, cell) in
    let inside : c.min-hi.result - c.loop-i.i < length c.loop-i.tails = omega arith in
    record {
      tails = tails_next (at_cell c.args.frame c.args.bounds.now) (cell_of c.args.s) c.args.s.v1
          (c.min-hi.result - c.loop-i.i) (c.min-hi.result + 1 - c.loop-i.i) (c.min-hi.result + 1 - (c.loop-i.i + 1))
          c.least_starting_at.result c.loop-i.tails
          inside (omega arith) (omega (arith, c.saturating_sub-lo.ensures)) (omega arith)
          c.least_starting_at.ensures.least inv.tails;
      small = small_more c.loop-i.tails (c.min-hi.result - c.loop-i.i) c.least_starting_at.result inside few
          c.least_starting_at.ensures.least.small inv.small;
      len = length-set _ _ _ ∙ len;
    }
