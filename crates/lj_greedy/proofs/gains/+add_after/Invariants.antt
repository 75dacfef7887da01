use Rattle.std.proofs.Common.{◌≡◌, ℕ, ◌+◌, ◌<◌, ◌++◌, drop, get_or, length}
use Rattle.lj_base.specs.Blocks.{Ascends}
use Rattle.lj_greedy.specs.Gains.{completed, is_zero_at, rows_after}
use Rattle.lj_greedy.proofs.gains.+add_after.Given as goal

abbrev pub decreases-add_after : goal.decreases-add_after
decreases-add_after l = l.left

abbrev pub invariant-loop-i : goal.invariant-loop-i
invariant-loop-i l = record {
  long : length l.gains ≡ length l.initial.gains;
  ascends : Ascends 0 l.counts.cell.v (l.row ++ drop l.i l.block);
  left : (p : ℕ) → p < length l.initial.gains →
      get_or l.gains p 0
      + completed (is_zero_at l.counts.counts) p (rows_after l.row l.left (drop l.i l.block))
      ≡ get_or l.initial.gains p 0
      + completed (is_zero_at l.counts.counts) p (rows_after l.row l.left (drop l.from l.block));
}
