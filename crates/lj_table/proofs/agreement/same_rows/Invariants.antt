use Rattle.std.proofs.Common.{◌≡◌, ◌≤◌, length, take}
use Rattle.lj_cover.specs.Instances.{rows_at}
use Rattle.lj_table.proofs.agreement.same_rows.Given as goal

abbrev pub invariant-loop-i : goal.invariant-loop-i
invariant-loop-i l = record {
  few : l.place ≤ length l.rows;
  same : take l.place l.rows ≡ rows_at (take l.i l.uploads) l.fn.c;
}
