use Rattle.std.proofs.Common.{◌≡◌, ℕ, ◌<◌, ◌≤◌, [], length, slice_index_or}
use Rattle.lj_cover.specs.Operations.{cut}
use Rattle.lj_upload.specs.Tables.{one_more_at}
use Rattle.lj_upload.proofs.tables.add_cuts.Given as goal

abbrev pub invariant-loop-w : goal.invariant-loop-w
invariant-loop-w l = record {
  count : l.below ≡ length (cut l.w l.block);
  short : l.below ≤ 25;
  done : (k : ℕ) → k < l.w → slice_index_or l.table k [] ≡ one_more_at (slice_index_or l.initial.table k [])
      (length (cut k l.block));
  left : (k : ℕ) → l.w ≤ k → slice_index_or l.table k [] ≡ slice_index_or l.initial.table k [];
}
