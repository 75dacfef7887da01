use Rattle.std.proofs.Common.{◌≡◌, ◌+◌, ◌-◌, length}
use Rattle.lj_base.specs.Bounds.{at_cell}
use Rattle.lj_product.specs.Parts.{AreTails}
use Rattle.lj_product.specs.Sides.{AreSmall, cell_of}
use Rattle.lj_product.proofs.parts.fill_tails.Given as goal

abbrev pub invariant-loop-i : goal.invariant-loop-i
invariant-loop-i l = record {
  tails : AreTails (at_cell l.frame l.bounds) (cell_of l.s) l.s.v1 (l.hi + 1 - l.i) l.tails;
  small : AreSmall l.tails;
  len : length l.tails ≡ 10;
}
