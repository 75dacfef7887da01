use Rattle.std.proofs.Common.{◌≡◌, ℕ, ◌+◌, ◌<◌, [], length, slice_index_or, take}
use Rattle.lj_cover.specs.Instances.{cut_counts}
use Rattle.lj_upload.proofs.tables.cut_table.Given as goal

abbrev pub invariant-loop-block : goal.invariant-loop-block
invariant-loop-block l = record {
  len : length l.table.items ≡ l.v + 1;
  rows : (w : ℕ) → w < l.v + 1 → slice_index_or l.table.items w [] ≡ cut_counts w (take l.block-index l.blocks);
}
