use Rattle.std.proofs.Common.{◌+◌, slice_index}
use Rattle.lj_upload.specs.Degrees.{IsFirstLeast}
use Rattle.lj_upload.proofs.least.least_above.Given as goal

abbrev pub invariant-loop-y : goal.invariant-loop-y
invariant-loop-y l = IsFirstLeast (l.x + 1) l.y (λ y. slice_index l.row y) l.second l.least
