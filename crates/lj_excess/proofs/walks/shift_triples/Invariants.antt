use Rattle.std.proofs.Common.{take}
use Rattle.lj_excess.specs.Changes.{Changed, shifted}
use Rattle.lj_verify.specs.Marks.{IsRankAmong}
use Rattle.lj_excess.proofs.walks.shift_triples.Given as goal

abbrev pub invariant-loop-i : goal.invariant-loop-i
invariant-loop-i l = Changed (shifted l.step) l.initial.counts l.counts (IsRankAmong (take l.i l.block) 3 l.rest)
