use Rattle.lj_upload.specs.Degrees.{IsFirstLeastPair}
use Rattle.lj_upload.specs.Tables.{entry}
use Rattle.lj_upload.proofs.least.least_pair.Given as goal

abbrev pub invariant-loop-x : goal.invariant-loop-x
invariant-loop-x l = IsFirstLeastPair l.x l.v (λ x y. entry l.table x y) l.pair.0 l.pair.1 l.pair.2
