use Rattle.std.proofs.Common.{take, ◌+◌}
use Rattle.lj_verify.specs.Marks.{IsRankAmong, Marks}
use Rattle.lj_verify.proofs.strings.mark_prefixes.Given as goal

abbrev pub invariant-loop-i : goal.invariant-loop-i
invariant-loop-i l = Marks l.start l.initial.words l.words (IsRankAmong (take l.i l.block) (l.size + 1) l.rest)
