use Rattle.std.proofs.Common.{◌≡◌}
use Rattle.lj_bench_shared.proofs.work_alone.Given as goal

abbrev pub invariant-loop-turn : goal.invariant-loop-turn
invariant-loop-turn g l = l.pass.board ≡ l.shared
