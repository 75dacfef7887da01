use Rattle.std.proofs.Common.{◌≡◌, take}
use Rattle.lj_expand.specs.Positions.{with_first}
use Rattle.lj_expand.proofs.filling.set_with_first.Given as goal

abbrev pub invariant-loop-i : goal.invariant-loop-i
invariant-loop-i l = l.whole ≡ take l.i (with_first l.first l.set)
