use Rattle.std.proofs.Common.{◌*◌, take}
use Rattle.lj_verify.specs.Marks.{IsRankIn, Marks}
use Rattle.lj_verify.proofs.workers.mark_shares.Given as goal

abbrev pub invariant-loop-i : goal.invariant-loop-i
invariant-loop-i g l = Marks 0 l.initial.words l.words (IsRankIn (take (l.i * l.share) l.fn.blocks) l.fn.t)
