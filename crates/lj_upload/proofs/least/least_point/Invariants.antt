use Rattle.lj_upload.specs.Degrees.{IsFirstLeast}
use Rattle.lj_upload.specs.Tables.{entry}
use Rattle.lj_upload.proofs.least.least_point.Given as goal

abbrev pub invariant-loop-x : goal.invariant-loop-x
invariant-loop-x l = IsFirstLeast 0 l.x (λ x. entry l.table x x) l.point l.least
