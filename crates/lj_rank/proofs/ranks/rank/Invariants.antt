use Rattle.std.proofs.Common.{◌≡◌, take}
use Rattle.lj_rank.specs.Ranks.{rank_of}
use Rattle.lj_rank.proofs.ranks.rank.Given as goal

abbrev pub invariant-loop-i : goal.invariant-loop-i
invariant-loop-i l = l.sum ≡ rank_of (take l.i l.set)
