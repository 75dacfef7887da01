use Rattle.std.proofs.Common.{◌≡◌, ℕ, ◌<◌, ◌≤◌, length, slice_index}
use Rattle.lj_base.specs.Bounds.{at_cell}
use Rattle.lj_base.specs.declared.limits.TheConstants.{COST_LIMIT}
use Rattle.lj_cover.specs.Rules.{cut_cost, triple}
use Rattle.lj_induced.proofs.rows.cut_prices.Given as goal

abbrev pub invariant-loop-l : goal.invariant-loop-l
invariant-loop-l l = record {
  prices : (n : ℕ) → n < l.l
      → slice_index l.prices n ≡ cut_cost l.cell.t l.cell.k (at_cell l.frame l.bounds (triple n l.cell.k l.cell.t)) n;
  small : (n : ℕ) → slice_index l.prices n ≤ COST_LIMIT;
  len : length l.prices ≡ 26;
}
