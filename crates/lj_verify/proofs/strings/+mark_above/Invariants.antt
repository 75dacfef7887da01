use Rattle.std.proofs.Common.{take}
use Rattle.lj_verify.specs.Marks.{IsRankAmong, Marks}
use Rattle.lj_verify.proofs.strings.+mark_above.Given as goal

abbrev pub decreases-mark_above : goal.decreases-mark_above
decreases-mark_above l = l.t

abbrev pub invariant-loop-i : goal.invariant-loop-i
invariant-loop-i l = Marks l.start l.initial.words l.words (IsRankAmong (take l.i l.block) l.t l.rest)
