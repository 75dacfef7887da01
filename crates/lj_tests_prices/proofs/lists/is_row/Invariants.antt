use Rattle.std.proofs.Common.{◌≡◌, ℕ, ◌*◌, ◌<◌, ◌≤◌, ◌^◌, ◌⊎◌, length, slice_index, sum, take}
use Rattle.lj_tests_prices.proofs.lists.is_row.Given as goal

abbrev pub invariant-loop-l : goal.invariant-loop-l
invariant-loop-l l = record {
  total : l.total ≡ sum (take l.l l.row.counts);
  small : l.total ≤ l.l * 2 ^ 32;
  within : (n : ℕ) → n < l.l → (l.fn.cell.v < n) ⊎ (l.fn.frame.top.k < n) → slice_index l.row.counts n ≡ 0;
  len : length l.row.counts ≡ 26;
}
