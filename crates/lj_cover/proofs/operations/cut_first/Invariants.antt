use Rattle.std.proofs.Common.{◌≡◌, take}
use Rattle.lj_cover.specs.Operations.{cut}
use Rattle.lj_cover.proofs.operations.cut_first.Given as goal

abbrev pub invariant-loop-i : goal.invariant-loop-i
invariant-loop-i l = l.kept ≡ cut l.w (take l.i l.b)
