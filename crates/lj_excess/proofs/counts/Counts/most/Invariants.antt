use Rattle.std.proofs.Common.{◌≡◌, take}
use Rattle.lj_excess.specs.Multiplicities.{most_in}
use Rattle.lj_excess.proofs.counts.Counts.most.Given as goal

abbrev pub invariant-loop-count : goal.invariant-loop-count
invariant-loop-count l = l.most ≡ most_in (take l.count-index l.count-items)
