use Rattle.std.proofs.Common.{◌≡◌, ◌+◌}
use Rattle.lj_base.specs.Frames.{before_k}
use Rattle.lj_base.proofs.frames.row_at.Given as goal

abbrev pub invariant-loop-k : goal.invariant-loop-k
invariant-loop-k l = before_k l.top-inside.t l.k + l.rest ≡ l.place
