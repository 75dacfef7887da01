use Rattle.std.proofs.Common.{◌∙◌, ap, arith, sym}
use Rattle.std.proofs.lemmas.Bool.{false_from_ne_true, iff_false}
use Rattle.std.proofs.lemmas.List.Sums.{count_by_more_no, count_by_more_yes}
use Rattle.lj_cover.specs.Operations.{has_point}
use Rattle.lj_cover.proofs.CutsOfBlocks.{Has-from_test, test-from_Has}
use Rattle.lj_cover.proofs.counts.degree.Goals as goal
use Rattle.lj_cover.proofs.counts.degree.Goals.{then-has, else-has}

pub loop-block-preserved : goal.loop-block-preserved
loop-block-preserved c =
    let x = c.args.x in
    let b = c.block-item.result in
    let items = c.blocks-block-items.result.now in
    let same = ap (λ d. has_point d x) (sym c.block-item.is) in
    elim c.if-has.branch [
      | then-has w ↦
          let more = count_by_more_yes (λ d. has_point d x) items c.loop-block.block-index b c.loop-block-test.true
          (same ∙ test-from_Has b x (c.has.ensures.0 w.if-has.true)) in
          omega (arith, c.loop-block.invariant, w.count-is)
      | else-has w ↦
          let more = count_by_more_no (λ d. has_point d x) items c.loop-block.block-index b c.loop-block-test.true
          (same ∙ false_from_ne_true (has_point b x)
          (λ e. iff_false c.has.ensures w.if-has.false (Has-from_test b x e))) in
          omega (arith, c.loop-block.invariant, w.count-is)
    ]
