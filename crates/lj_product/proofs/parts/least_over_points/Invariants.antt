use Rattle.std.proofs.Common.{◌≡◌}
use Rattle.lj_base.specs.Bounds.{at_cell}
use Rattle.lj_product.specs.Parts.{part, part_price}
use Rattle.lj_product.specs.Sides.{cell_of}
use Rattle.lj_product.proofs.Searching.{IsLeastTo}
use Rattle.lj_product.proofs.parts.least_over_points.Given as goal

abbrev pub invariant-loop-l : goal.invariant-loop-l
invariant-loop-l l =
    IsLeastTo (λ n. part_price (at_cell l.frame l.bounds) (cell_of l.s) l.s.v1 (part l.a l.b n)) (l.a ≡ l.b) l.low l.l
    l.least
