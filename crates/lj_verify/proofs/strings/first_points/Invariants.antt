use Rattle.std.proofs.Common.{◌≡◌, take}
use Rattle.lj_verify.proofs.strings.first_points.Given as goal

abbrev pub invariant-loop-i : goal.invariant-loop-i
invariant-loop-i l = l.first ≡ take l.i l.block
