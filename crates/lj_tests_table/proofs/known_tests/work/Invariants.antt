use Rattle.lj_tests_table.specs.Current.{IsCurrent}
use Rattle.lj_tests_table.proofs.known_tests.work.Given as goal

abbrev pub invariant-loop-turns : goal.invariant-loop-turns
invariant-loop-turns l = IsCurrent l.table l.ticket
