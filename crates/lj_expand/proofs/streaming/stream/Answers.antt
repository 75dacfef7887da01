use Rattle.std.proofs.Common.{◌+◌, ◌∙◌, arith, subst, sym, take}
use Rattle.std.proofs.KnownBytes.{Appends-trans}
use Rattle.lj_base.specs.Streams.{Appends}
use Rattle.lj_blockfile.specs.BlockFiles.{blocks_text}
use Rattle.lj_cover.specs.Derivations.{expand}
use Rattle.lj_deriv.specs.Nodes.{plan_tree}
use Rattle.lj_expand.proofs.Texts.{OnErr-always, text-front, text-more}
use Rattle.lj_expand.proofs.streaming.stream.Goals as goal

pub loop-done-preserved : goal.loop-done-preserved
loop-done-preserved g c =
    let bs = expand (plan_tree c.args.plan.now) in
    let done = c.loop-done.done in
    let count = c.fill_batch-count.result in
    record {
      room = omega (arith, c.loop-done.invariant.room, c.fill_batch-count.auto.out);
      upto = omega (arith, c.fill_batch-count.ensures.count, c.cost-cost.ensures.cost);
      written =
          subst (Appends _ _) (sym (text-more bs _ done count c.fill_batch-count.ensures.blocks))
          (Appends-trans _ _ _ _ _ c.loop-done.invariant.written c.in_ok-stream_lines.ensures.written);
      quiet = c.in_ok-stream_lines.ensures.quiet ∙ c.loop-done.invariant.quiet;
    }

pub returns-in_err-stream_lines-clause-front : goal.returns-in_err-stream_lines-clause-front
returns-in_err-stream_lines-clause-front g c =
    let bs = expand (plan_tree c.args.plan.now) in
    let done = c.loop-done.done in
    let count = c.fill_batch-count.result in
    let (n, inside, piece) = c.in_err-stream_lines.ensures.front in
    let whole = text-front bs done (done + count) n _ (text-more bs _ done count c.fill_batch-count.ensures.blocks)
    inside in
    let a = g.K.Sink.written c.args.sink.now in
    let b = g.K.Sink.written c.loop-done.sink in
    let d = g.K.Sink.written c.stream_lines.new.sink in
    OnErr-always c.from_residual.result _ (
      whole.0,
      whole.1,
      subst (λ t. Appends a d t) (sym whole.2)
          (Appends-trans a b d (blocks_text (take done bs)) _ c.loop-done.invariant.written piece),
    )
