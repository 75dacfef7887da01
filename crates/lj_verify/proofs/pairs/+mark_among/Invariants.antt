use Rattle.std.proofs.Common.{take}
use Rattle.lj_verify.specs.Marks.{IsRankAmong, Marks}
use Rattle.lj_verify.proofs.pairs.+mark_among.Given as goal

abbrev pub decreases-mark_among : goal.decreases-mark_among
decreases-mark_among l = l.t

abbrev pub invariant-loop-i : goal.invariant-loop-i
invariant-loop-i l = Marks l.start l.initial.words l.words (IsRankAmong (take l.i l.block) l.t l.rest)
