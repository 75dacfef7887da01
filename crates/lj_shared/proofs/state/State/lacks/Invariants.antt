use Rattle.std.proofs.Common.{◌≤◌, length, take}
use Rattle.lj_shared.specs.States.{AreAmong}
use Rattle.lj_shared.proofs.state.State.lacks.Given as goal

abbrev pub invariant-loop-i : goal.invariant-loop-i
invariant-loop-i l = (l.from ≤ length l.uploads) × AreAmong (take l.i l.own) l.uploads
