use Rattle.std.proofs.Common.{◌≡◌, length, take}
use Rattle.lj_greedy.specs.Gains.{AreGains, is_zero_at}
use Rattle.lj_greedy.proofs.growing.block_of_set.Given as goal

abbrev pub invariant-loop-i : goal.invariant-loop-i
invariant-loop-i l = record {
  block : l.block ≡ take l.i l.set;
  gains : AreGains (is_zero_at l.counts.counts) l.counts.cell.t l.block l.gains;
  long : length l.gains ≡ length l.initial.gains;
}
