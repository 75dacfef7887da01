use Rattle.std.proofs.Common.{◌<◌, ◌+◌, ◌∙◌, arith, length, subst, sym, take}
use Rattle.std.proofs.KnownBytes.{Appends-trans}
use Rattle.lj_base.specs.Streams.{Appends}
use Rattle.lj_blockfile.specs.BlockFiles.{blocks_text}
use Rattle.lj_expand.proofs.Texts.{OnErr-always, text-front, text-one_more}
use Rattle.lj_expand.proofs.streaming.stream_lines.Goals as goal

pub loop-block-preserved : goal.loop-block-preserved
loop-block-preserved g c =
    let bs = c.args.blocks.now in
    let piece = subst (Appends _ _) (c.write_line-end.ensures.line) c.in_ok-write_all.ensures.written in
    record {
      room = omega (arith, c.loop-block.invariant.room, c.write_line-end.ensures.len);
      written =
          subst (Appends _ _) (sym (text-one_more bs c.loop-block.block-index _ c.loop-block-test.true c.block-item.is))
          (Appends-trans _ _ _ _ _ c.loop-block.invariant.written piece);
      quiet = c.in_ok-write_all.ensures.quiet ∙ c.loop-block.invariant.quiet;
    }

pub returns-in_err-write_all-clause-front : goal.returns-in_err-write_all-clause-front
returns-in_err-write_all-clause-front g c =
    let bs = c.args.blocks.now in
    let i = c.loop-block.block-index in
    let line = c.write_line-end.ensures.line in
    let (n, inside, piece) = c.in_err-write_all.ensures.front in
    let whole = text-front bs i (i + 1) n _ (text-one_more bs i _ c.loop-block-test.true c.block-item.is)
    (subst (λ t. n < length t) line inside) in
    let a = g.K.Sink.written c.args.sink.now in
    let b = g.K.Sink.written c.loop-block.sink in
    let d = g.K.Sink.written c.write_all.new.sink in
    let part = subst (λ t. Appends b d (take n t)) line piece in
    OnErr-always c.from_residual.result _ (
      whole.0,
      whole.1,
      subst (λ t. Appends a d t) (sym whole.2)
          (Appends-trans a b d (blocks_text (take i bs)) _ c.loop-block.invariant.written part),
    )
