use Rattle.lj_base.specs.Bounds.{AreBounds}
use Rattle.lj_bench_prices.proofs.start.Given as goal

abbrev pub invariant-loop-i : goal.invariant-loop-i
invariant-loop-i l = AreBounds l.frame l.bounds.items
