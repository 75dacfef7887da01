use Rattle.lj_base.specs.Bounds.{at_cell}
use Rattle.lj_cover.specs.Rules.{triple}
use Rattle.lj_product.proofs.Splitting.{IsLeastUpTo}
use Rattle.lj_product.proofs.products.least_split.Given as goal

abbrev pub invariant-loop-v1 : goal.invariant-loop-v1
invariant-loop-v1 l = IsLeastUpTo l.frame (at_cell l.frame l.bounds) (triple l.v l.k l.t) l.s l.split l.least l.v1
