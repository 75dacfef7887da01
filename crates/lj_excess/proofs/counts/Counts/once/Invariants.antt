use Rattle.std.proofs.Common.{◌≡◌, ◌≤◌, take}
use Rattle.lj_excess.specs.Multiplicities.{once_in}
use Rattle.lj_excess.proofs.counts.Counts.once.Given as goal

abbrev pub invariant-loop-count : goal.invariant-loop-count
invariant-loop-count l = record {
  value : l.once ≡ once_in (take l.count-index l.count-items);
  few : l.once ≤ l.count-index;
}
