use Rattle.std.proofs.Common.{◌≡◌}
use Rattle.lj_session.specs.declared.asks.Ask.TheVariants.{Done}
use Rattle.lj_tests_session.proofs.driven.drive.Given as goal

abbrev pub invariant-loop : goal.invariant-loop
invariant-loop g l = l.session.ask ≡ Done
