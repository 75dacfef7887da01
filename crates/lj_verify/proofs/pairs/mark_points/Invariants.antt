use Rattle.std.proofs.Common.{take}
use Rattle.lj_verify.specs.Marks.{IsRankAmong, Marks}
use Rattle.lj_verify.proofs.pairs.mark_points.Given as goal

abbrev pub invariant-loop-i : goal.invariant-loop-i
invariant-loop-i l = Marks l.start l.initial.words l.words (IsRankAmong (take l.i l.block) 1 0)
