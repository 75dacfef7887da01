use Rattle.lj_tests_prices.proofs.Checks.{AreChecked}
use Rattle.lj_tests_prices.proofs.lists.are_bounds.Given as goal

abbrev pub invariant-loop-i : goal.invariant-loop-i
invariant-loop-i l = AreChecked l.frame l.numbers l.i
