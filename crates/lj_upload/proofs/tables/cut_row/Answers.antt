use Rattle.std.proofs.Common.{◌≡◌, ap, ◌∙◌, arith, get_or, length, take}
use Rattle.std.proofs.lemmas.List.{length-take-le, take_all}
use Rattle.lj_cover.specs.Operations.{cut}
use Rattle.lj_cover.specs.Instances.{cut_counts}
use Rattle.lj_upload.specs.Tables.{one_more_at}
use Rattle.lj_upload.proofs.Counts.{counts_few, counts_more}
use Rattle.lj_upload.proofs.tables.cut_row.Goals as goal

pub overflow_add-row : goal.overflow_add-row
overflow_add-row c =
    let before = take c.loop-block.block-index c.args.blocks.now in
    let place = c.points_below-below.result in
    let row : get_or c.loop-block.row place 0 ≡ get_or (cut_counts c.args.w before) place 0 =
    ap (λ r. get_or r place 0) c.loop-block.invariant in
    omega (
      arith,
      row,
      counts_few c.args.w place before,
      length-take-le c.loop-block.block-index c.args.blocks.now (omega arith),
    )

pub loop-block-preserved : goal.loop-block-preserved
loop-block-preserved c =
    let w = c.args.w in
    ap (λ n. one_more_at c.loop-block.row n) c.points_below-below.ensures.count
    ∙ ap (λ r. one_more_at r (length (cut w c.block-item.result))) c.loop-block.invariant
    ∙ counts_more w c.loop-block.block-index c.args.blocks.now c.block-item.result c.loop-block-test.true
    c.block-item.is

pub returns : goal.returns
returns c =
    c.loop-block.invariant
    ∙ ap (cut_counts c.args.w) (take_all c.loop-block.block-index c.args.blocks.now (omega arith))
