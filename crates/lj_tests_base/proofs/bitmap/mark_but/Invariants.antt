use Rattle.std.proofs.Common.{◌≡◌, length}
use Rattle.lj_tests_base.proofs.bitmap.mark_but.Given as goal

abbrev pub invariant-loop-r : goal.invariant-loop-r
invariant-loop-r l = length l.map ≡ length l.initial.map
