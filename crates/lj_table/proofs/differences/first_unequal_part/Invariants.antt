use Rattle.std.proofs.Common.{◌+◌, ◌-◌, ◌≤◌, length}
use Rattle.lj_table.specs.Differences.{AreSame}
use Rattle.lj_table.proofs.differences.first_unequal_part.Given as goal

abbrev pub invariant-loop-i : goal.invariant-loop-i
invariant-loop-i l = record {
  from : l.from ≤ l.i;
  inside : l.i ≤ length l.a;
  before : AreSame l.a l.b l.from l.i;
}

abbrev pub decreases-loop-i : goal.decreases-loop-i
decreases-loop-i l = length l.a + 1 - l.i
