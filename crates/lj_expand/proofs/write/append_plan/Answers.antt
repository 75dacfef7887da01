use Rattle.std.proofs.Common.{◌++◌, ◌∙◌, ap, append_assoc, arith, sym, take}
use Rattle.lj_blockfile.specs.BlockFiles.{blocks_text}
use Rattle.lj_cover.specs.Derivations.{expand}
use Rattle.lj_deriv.specs.Nodes.{plan_tree}
use Rattle.lj_expand.proofs.Texts.{text-more}
use Rattle.lj_expand.proofs.write.append_plan.Goals as goal

pub loop-done-preserved : goal.loop-done-preserved
loop-done-preserved c =
    let bs = expand (plan_tree c.args.plan.now) in
    let done = c.loop-done.done in
    let count = c.fill_batch-count.result in
    let batch = take count c.fill_batch-count.new.out in
    let before = c.args.out.now.items in
    record {
      room = omega (arith, c.loop-done.invariant.room, c.fill_batch-count.auto.out);
      lines = omega (arith, c.loop-done.invariant.lines, c.write_lines-end.auto.out);
      upto = omega (arith, c.fill_batch-count.ensures.count, c.cost-cost.ensures.cost);
      text =
          c.in_ok-put.ensures.ok ∙ ap (λ t. c.loop-done.out.items ++ t) c.write_lines-end.ensures.lines
          ∙ ap (λ t. t ++ blocks_text batch) c.loop-done.invariant.text
          ∙ append_assoc before (blocks_text (take done bs)) (blocks_text batch)
          ∙ ap (λ t. before ++ t) (sym (text-more bs batch done count c.fill_batch-count.ensures.blocks));
    }
