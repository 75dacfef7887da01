use Rattle.std.proofs.Common.{◌≡◌, ◌<◌, ℕ, slice_index, length}
use Rattle.lj_base.specs.Bounds.{at_cell}
use Rattle.lj_cover.specs.Rules.{triple}
use Rattle.lj_table.proofs.rules.of_row.Given as goal

abbrev pub invariant-loop-l : goal.invariant-loop-l
invariant-loop-l l = record {
  count : length l.children ≡ 26;
  at : (m : ℕ) → l.fn.cell.k < m → m < l.l
      → slice_index l.children m ≡ at_cell l.frame l.nodes (triple m l.fn.cell.k l.fn.cell.t);
}
