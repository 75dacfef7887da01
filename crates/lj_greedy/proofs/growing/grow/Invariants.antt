use Rattle.std.proofs.Common.{◌≡◌, ◌≤◌, ◌-◌, length}
use Rattle.lj_base.specs.Blocks.{IsBlock, Within}
use Rattle.lj_greedy.specs.Gains.{AreGains, is_zero_at}
use Rattle.lj_greedy.specs.Greedy.{greedy_block, grown}
use Rattle.lj_greedy.proofs.growing.grow.Given as goal

abbrev pub decreases-loop-block : goal.decreases-loop-block
decreases-loop-block l = l.counts.cell.k - length l.block

abbrev pub invariant-loop-block : goal.invariant-loop-block
invariant-loop-block l = record {
  long : length l.gains ≡ length l.initial.gains;
  block : IsBlock l.counts.cell.v (length l.block) l.block;
  short : length l.block ≤ l.counts.cell.k;
  gains : AreGains (is_zero_at l.counts.counts) l.counts.cell.t l.block l.gains;
  value : grown (is_zero_at l.counts.counts) l.counts.cell (l.counts.cell.k - length l.block) l.block
      ≡ greedy_block (is_zero_at l.counts.counts) l.counts.cell l.fn.start;
  within : Within l.fn.start l.block;
}
