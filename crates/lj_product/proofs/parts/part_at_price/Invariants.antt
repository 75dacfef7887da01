use Rattle.std.proofs.Common.{◌≡◌, ◌≢◌, ◌+◌, ◌<◌, slice_index}
use Rattle.lj_base.specs.Bounds.{at_cell}
use Rattle.lj_cover.specs.Rules.{Part}
use Rattle.lj_product.specs.Parts.{IsPart, part_price}
use Rattle.lj_product.specs.Sides.{cell_of}
use Rattle.lj_product.proofs.parts.part_at_price.Given as goal

abbrev pub invariant-loop-b : goal.invariant-loop-b
invariant-loop-b l =
    (p : Part) → IsPart (cell_of l.s) l.s.v1 p → p.a ≡ l.a → p.b < l.b
    → slice_index l.tails l.a ≢ part_price (at_cell l.frame l.bounds) (cell_of l.s) l.s.v1 p + slice_index l.tails
    (p.b + 1)
