use Rattle.std.specs.List.{All}
use Rattle.lj_base.specs.Frames.{InFrame}
use Rattle.lj_bench_prices.proofs.cells_of.Given as goal

abbrev pub invariant-loop-i : goal.invariant-loop-i
invariant-loop-i l = All (InFrame l.frame) l.cells.items
