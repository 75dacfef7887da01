use Rattle.std.proofs.Common.{◌≡◌, ◌+◌, ◌<◌, [], length, get_or, take, replicate, ap, ◌∙◌, arith}
use Rattle.std.proofs.lemmas.List.{get_or-replicate, length-replicate, length-take-le, take_all}
use Rattle.std.proofs.lemmas.List.FromFn.{fill_by_all}
use Rattle.lj_cover.specs.Operations.{cut}
use Rattle.lj_cover.specs.Instances.{cut_counts}
use Rattle.lj_upload.specs.Tables.{entry, one_more_at}
use Rattle.lj_upload.proofs.Counts.{counts_few, counts_more, written}
use Rattle.lj_upload.proofs.tables.cut_table.Goals as goal

pub loop-block-init : goal.loop-block-init
loop-block-init c =
    let zeros = c.in_ok-table.ensures in
    record {
      len = ap length zeros ∙ length-replicate (c.args.v + 1) _;
      rows = λ w below. ap (λ t. get_or t w []) zeros ∙ get_or-replicate (c.args.v + 1) w (replicate 26 0) [] below;
    }

pub add_cuts-requires : goal.add_cuts-requires
add_cuts-requires c = λ w n below.
    let same = c.deref_mut.ensures.value in
    let before = take c.loop-block.block-index c.args.blocks.now in
    let inside : w < c.args.v + 1 = omega (arith, ap length same) in
    let row : entry c.deref_mut.result.now w n ≡ get_or (cut_counts w before) n 0 =
    ap (λ t. entry t w n) same ∙ ap (λ r. get_or r n 0) (c.loop-block.invariant.rows w inside) in
    omega (arith, row, counts_few w n before, length-take-le c.loop-block.block-index c.args.blocks.now (omega arith))

pub loop-block-preserved : goal.loop-block-preserved
loop-block-preserved c =
    let same = c.deref_mut.ensures.value in
    let new = c.add_cuts.new.table in
    let back = written c.loop-block.table.len new c.loop-block.table.items
    (omega (arith, ap length same, c.loop-block.table.ok.0)) in
    rw back (record {
      len = omega (arith, ap length same);
      rows = λ w below.
          c.add_cuts.ensures.rows w (omega (arith, ap length same))
          ∙ ap (λ r. one_more_at r (length (cut w c.block-item.result)))
          (ap (λ t. get_or t w []) same ∙ c.loop-block.invariant.rows w below)
          ∙ counts_more w c.loop-block.block-index c.args.blocks.now c.block-item.result c.loop-block-test.true
          c.block-item.is;
    })

pub returns : goal.returns
returns c =
    let items = c.loop-block.table.items in
    let all = take_all c.loop-block.block-index c.args.blocks.now (omega arith) in
    fill_by_all (λ w. cut_counts w c.args.blocks.now) items (c.args.v + 1) [] c.loop-block.invariant.len
    (λ w below. c.loop-block.invariant.rows w below ∙ ap (cut_counts w) all)
