use Rattle.std.proofs.Common.{get_or}
use Rattle.lj_greedy.proofs.BestPoints.{IsBestBelow}
use Rattle.lj_greedy.proofs.growing.best_point.Given as goal

abbrev pub invariant-loop-p : goal.invariant-loop-p
invariant-loop-p l = IsBestBelow (λ q. get_or l.gains q 0) l.block l.p l.best l.least
