use Rattle.lj_base.specs.Bounds.{at_cell}
use Rattle.lj_product.specs.Sides.{cell_of, IsLeastPart}
use Rattle.lj_product.proofs.parts.least_starting_at.Given as goal

abbrev pub invariant-loop-b : goal.invariant-loop-b
invariant-loop-b l = IsLeastPart (at_cell l.frame l.bounds) (cell_of l.s) l.s.v1 l.a l.tails l.b l.least
