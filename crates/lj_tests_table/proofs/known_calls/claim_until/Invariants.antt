use Rattle.lj_tests_table.specs.Current.{IsCurrent}
use Rattle.lj_tests_table.proofs.known_calls.claim_until.Given as goal

abbrev pub invariant-loop : goal.invariant-loop
invariant-loop l = IsCurrent l.table l.ticket
