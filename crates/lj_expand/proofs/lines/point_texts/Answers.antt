use Rattle.std.proofs.Common.{◌∙◌, arith}
use Rattle.std.proofs.lemmas.List.{length-set}
use Rattle.lj_expand.proofs.Texts.{texts-more}
use Rattle.lj_expand.proofs.lines.point_texts.Goals as goal

pub loop-point-preserved : goal.loop-point-preserved
loop-point-preserved c =
    let texts = c.loop-point.texts in
    let point = c.loop-point.point in
    record {
      len = length-set texts point c.text_of.result ∙ c.loop-point.invariant.len;
      each = texts-more texts point c.text_of.result (omega (arith, c.loop-point.invariant.len))
          c.loop-point.invariant.each c.text_of.ensures;
    }
