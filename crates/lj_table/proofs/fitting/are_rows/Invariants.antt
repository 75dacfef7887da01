use Rattle.std.proofs.Common.{All, take}
use Rattle.lj_cover.specs.Instances.{IsRowOf}
use Rattle.lj_table.proofs.fitting.are_rows.Given as goal

abbrev pub invariant-loop-row : goal.invariant-loop-row
invariant-loop-row l = All (IsRowOf l.uploads l.c) (take l.row-index l.rows)
