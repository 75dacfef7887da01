use Rattle.std.proofs.Common.{◌≡◌, ℕ, ◌+◌, ◌*◌, ◌<◌, ◌≤◌, [], ◌∷◌, get_or, length}
use Rattle.lj_base.specs.declared.limits.TheConstants.{COST_LIMIT}
use Rattle.lj_greedy.specs.Gains.{completed, is_zero_at}
use Rattle.lj_greedy.proofs.GapRanks.{IsGap, gap_base}
use Rattle.lj_greedy.proofs.gains.add_row.Given as goal

abbrev pub invariant-loop-j : goal.invariant-loop-j
invariant-loop-j l = record {
  long : length l.gains ≡ length l.initial.gains;
  gap : IsGap l.counts.cell.v l.j l.from l.row;
  base : l.base ≡ gap_base l.j l.row;
  small : l.base ≤ (8 + l.j) * COST_LIMIT;
  done : (p : ℕ) → p < l.from → p < length l.initial.gains → get_or l.gains p 0
      ≡ get_or l.initial.gains p 0 + completed (is_zero_at l.counts.counts) p (l.row ∷ []);
  rest : (p : ℕ) → l.from ≤ p → get_or l.gains p 0 ≡ get_or l.initial.gains p 0;
}
