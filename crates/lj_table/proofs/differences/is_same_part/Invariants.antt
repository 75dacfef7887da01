use Rattle.std.proofs.Common.{◌≡◌, true}
use Rattle.lj_table.specs.Differences.{AreSame}
use Rattle.lj_table.proofs.differences.is_same_part.Given as goal

abbrev pub invariant-loop-j : goal.invariant-loop-j
invariant-loop-j l = l.same ≡ true → AreSame l.a l.b l.i l.j
