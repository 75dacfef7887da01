use Rattle.std.proofs.Common.{◌≡◌, take}
use Rattle.lj_cover.specs.Instances.{cut_counts}
use Rattle.lj_upload.proofs.tables.cut_row.Given as goal

abbrev pub invariant-loop-block : goal.invariant-loop-block
invariant-loop-block l = l.row ≡ cut_counts l.w (take l.block-index l.blocks)
