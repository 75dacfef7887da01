use Rattle.lj_tests_table.specs.Current.{IsCurrent}
use Rattle.lj_tests_table.proofs.known_tests.claims_each.Given as goal

abbrev pub invariant-loop-place : goal.invariant-loop-place
invariant-loop-place l = IsCurrent l.table l.ticket
