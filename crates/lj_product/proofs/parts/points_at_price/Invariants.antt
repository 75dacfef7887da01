use Rattle.std.proofs.Common.{◌≢◌, ℕ, ◌+◌, ◌<◌, ◌≤◌}
use Rattle.lj_base.specs.Bounds.{at_cell}
use Rattle.lj_product.specs.Parts.{part, part_price}
use Rattle.lj_product.specs.Sides.{cell_of}
use Rattle.lj_product.proofs.parts.points_at_price.Given as goal

abbrev pub invariant-loop-l : goal.invariant-loop-l
invariant-loop-l l =
    (n : ℕ) → l.low ≤ n → n < l.l
    → l.wanted ≢ part_price (at_cell l.frame l.bounds) (cell_of l.s) l.s.v1 (part l.a l.b n) + l.tail
