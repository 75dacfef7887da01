use Rattle.std.proofs.Common.{◌≡◌, All, take}
use Rattle.lj_cover.specs.Instances.{rows_at}
use Rattle.lj_induced.specs.Rows.{IsRowAt}
use Rattle.lj_rows.proofs.rows.present_rows.Given as goal

abbrev pub invariant-loop-i : goal.invariant-loop-i
invariant-loop-i l = record {
  rows : l.rows.items ≡ rows_at (take l.i l.uploads) l.fn.c;
  fit : All (IsRowAt l.frame l.fn.c) l.rows.items;
}
