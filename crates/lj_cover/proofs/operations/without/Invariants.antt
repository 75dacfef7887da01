use Rattle.std.proofs.Common.{◌≡◌, take}
use Rattle.lj_cover.specs.Operations.{without}
use Rattle.lj_cover.proofs.operations.without.Given as goal

abbrev pub invariant-loop-i : goal.invariant-loop-i
invariant-loop-i l = l.rest ≡ without l.x (take l.i l.b)
