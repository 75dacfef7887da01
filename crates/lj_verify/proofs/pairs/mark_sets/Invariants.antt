use Rattle.std.proofs.Common.{take}
use Rattle.lj_verify.specs.Marks.{IsRankIn, Marks}
use Rattle.lj_verify.proofs.pairs.mark_sets.Given as goal

abbrev pub invariant-loop-block : goal.invariant-loop-block
invariant-loop-block l = Marks l.start l.initial.words l.words (IsRankIn (take l.block-index l.blocks) l.t)
