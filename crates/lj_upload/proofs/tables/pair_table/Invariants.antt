use Rattle.std.proofs.Common.{take}
use Rattle.lj_upload.specs.Tables.{CountsPairs}
use Rattle.lj_upload.proofs.tables.pair_table.Given as goal

abbrev pub invariant-loop-block : goal.invariant-loop-block
invariant-loop-block l = CountsPairs l.design.cell.v (take l.block-index l.block-items) l.table.items
