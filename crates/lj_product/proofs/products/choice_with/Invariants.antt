use Rattle.std.proofs.Common.{◌≡◌, ◌+◌, ◌-◌, ◌≤◌, length}
use Rattle.lj_base.specs.Bounds.{at_cell}
use Rattle.lj_product.specs.Products.{chosen_parts}
use Rattle.lj_product.specs.Sides.{cell_of}
use Rattle.lj_product.proofs.Chains.{IsUpTo}
use Rattle.lj_product.proofs.products.choice_with.Given as goal

abbrev pub invariant-loop-a : goal.invariant-loop-a
invariant-loop-a l = record {
  up_to : IsUpTo (at_cell l.frame l.bounds) (cell_of l.s) l.s.v1 l.tails l.a (chosen_parts l.parts l.count);
  few : l.count + l.lo ≤ l.a;
  from : l.lo ≤ l.a;
  most : l.a ≤ l.hi + 1;
  len : length l.parts ≡ 9;
}

abbrev pub decreases-loop-a : goal.decreases-loop-a
decreases-loop-a l = l.hi + 1 - l.a
