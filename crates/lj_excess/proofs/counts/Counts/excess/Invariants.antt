use Rattle.std.proofs.Common.{◌≡◌, ◌*◌, ◌≤◌, ◌^◌, take}
use Rattle.lj_excess.specs.Multiplicities.{excess_in}
use Rattle.lj_excess.proofs.counts.Counts.excess.Given as goal

abbrev pub invariant-loop-count : goal.invariant-loop-count
invariant-loop-count l = record {
  value : l.excess ≡ excess_in (take l.count-index l.count-items);
  small : l.excess ≤ l.count-index * 2 ^ 32;
}
