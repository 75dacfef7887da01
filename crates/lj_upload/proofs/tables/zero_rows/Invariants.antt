use Rattle.std.proofs.Common.{◌≡◌, ◌≤◌, replicate, vec_capacity, vec_len}
use Rattle.lj_upload.proofs.tables.zero_rows.Given as goal

abbrev pub invariant-loop-row : goal.invariant-loop-row
invariant-loop-row g l = record {
  items : l.rows.items ≡ replicate l._row (replicate g.row.N 0);
  room : l.n ≤ vec_capacity l.rows;
  len : vec_len l.rows ≡ l._row;
}
