use Rattle.std.proofs.Common.{◌≡◌, ◌+◌, ◌-◌}
use Rattle.lj_base.specs.Frames.{up_to_v}
use Rattle.lj_base.proofs.frames.low_layer_at.Given as goal

abbrev pub invariant-loop-v : goal.invariant-loop-v
invariant-loop-v l = up_to_v l.top-inside.k l.top-inside.t (l.v - 1) + l.rest ≡ l.i
