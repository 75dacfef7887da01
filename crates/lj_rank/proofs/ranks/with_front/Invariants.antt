use Rattle.std.proofs.Common.{◌-◌, ◌≡◌, ◌++◌, take, drop}
use Rattle.lj_rank.proofs.ranks.with_front.Given as goal

abbrev pub invariant-loop-i : goal.invariant-loop-i
invariant-loop-i l = l.whole ≡ l.fn.front ++ take (l.i - l.n) (drop l.n l.set)
