use Rattle.lj_base.specs.Bounds.{AreBounds}
use Rattle.lj_bench_prices.proofs.close.Given as goal

abbrev pub invariant-loop : goal.invariant-loop
invariant-loop l = AreBounds l.frame l.bounds.items
