use Rattle.std.proofs.Common.{◌≤◌}
use Rattle.lj_table.specs.Differences.{AreSame}
use Rattle.lj_table.proofs.differences.next_difference.Given as goal

abbrev pub invariant-loop-j : goal.invariant-loop-j
invariant-loop-j l = record {
  from : l.from ≤ l.j;
  before : AreSame l.a l.b l.from l.j;
}
