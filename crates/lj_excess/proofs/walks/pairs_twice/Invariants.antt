use Rattle.std.proofs.Common.{ℕ, ◌≤◌, get_or, take}
use Rattle.lj_verify.specs.Marks.{IsRankAmong}
use Rattle.lj_excess.proofs.walks.pairs_twice.Given as goal

abbrev pub invariant-loop-i : goal.invariant-loop-i
invariant-loop-i l = (r : ℕ) → IsRankAmong (take l.i l.block) 2 l.rest r → 2 ≤ get_or l.counts r 0
