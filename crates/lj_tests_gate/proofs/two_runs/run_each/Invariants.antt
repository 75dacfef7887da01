use Rattle.std.proofs.Common.{◌≡◌}
use Rattle.lj_tests_gate.proofs.two_runs.run_each.Given as goal

abbrev pub invariant-loop-section : goal.invariant-loop-section
invariant-loop-section g l = l.pass.board ≡ l.shared-inside.board
