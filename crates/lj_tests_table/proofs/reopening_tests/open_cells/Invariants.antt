use Rattle.std.proofs.Common.{◌≤◌}
use Rattle.lj_tests_table.proofs.reopening_tests.open_cells.Given as goal

abbrev pub invariant-loop-place : goal.invariant-loop-place
invariant-loop-place l = l.open ≤ l.place
