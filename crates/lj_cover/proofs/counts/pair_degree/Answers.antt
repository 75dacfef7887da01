use Rattle.std.proofs.Common.{◌∙◌, ap, arith, sym}
use Rattle.std.proofs.lemmas.List.Sums.{count_by_more_no, count_by_more_yes}
use Rattle.lj_cover.specs.Operations.{has_both}
use Rattle.lj_cover.proofs.counts.pair_degree.Goals as goal
use Rattle.lj_cover.proofs.counts.pair_degree.Goals.{then-has_both, else-has_both}

pub loop-block-preserved : goal.loop-block-preserved
loop-block-preserved c =
    let both = has_both c.args.x c.args.y in
    let b = c.block-item.result in
    let items = c.blocks-block-items.result.now in
    let tested = ap both (sym c.block-item.is) ∙ sym c.has_both.ensures in
    elim c.if-has_both.branch [
      | then-has_both w ↦
          let more = count_by_more_yes both items c.loop-block.block-index b c.loop-block-test.true
          (tested ∙ w.if-has_both.true) in
          omega (arith, c.loop-block.invariant, w.count-is)
      | else-has_both w ↦
          let more = count_by_more_no both items c.loop-block.block-index b c.loop-block-test.true
          (tested ∙ w.if-has_both.false) in
          omega (arith, c.loop-block.invariant, w.count-is)
    ]
