use Rattle.std.proofs.Common.{arith, sym, subst, []}
use Rattle.std.proofs.lemmas.List.{get_or_read, take_all}
use Rattle.lj_verify.specs.Marks.{IsRankIn, Marks}
use Rattle.lj_verify.proofs.Runs.{marks_block, marks_no_blocks}
use Rattle.lj_verify.proofs.pairs.mark_sets.Goals as goal

pub loop-block-init : goal.loop-block-init
loop-block-init c = marks_no_blocks c.args.start c.args.words.now c.args.t

pub loop-block-preserved : goal.loop-block-preserved
loop-block-preserved c =
    marks_block c.args.start _ _ _ c.args.blocks.now c.loop-block.block-index c.args.t _ c.loop-block-test.true
    (sym (get_or_read _ _ _ c.loop-block-test.true c.block-item.is [])) c.loop-block.invariant c.mark_block.ensures

pub returns : goal.returns
returns c =
    subst (λ bs. Marks c.args.start c.args.words.now c.loop-block.words (IsRankIn bs c.args.t))
    (take_all c.loop-block.block-index c.args.blocks.now (omega arith)) c.loop-block.invariant
