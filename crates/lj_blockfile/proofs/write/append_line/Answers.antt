use Rattle.std.proofs.Common.{◌∙◌, ◌++◌, ◌+◌, ◌∷◌, ap, arith, decimal}
use Rattle.lj_blockfile.proofs.Writing.{block_line-first, block_line-next}
use Rattle.lj_blockfile.proofs.write.append_line.Goals as goal
use Rattle.lj_blockfile.proofs.write.append_line.Goals.{then-i-gt0+in_ok-put_number_field, else-i-gt0+in_ok-put_number}

pub loop-i-preserved : goal.loop-i-preserved
loop-i-preserved c =
    let before = c.args.out.now.items in
    let point = c.at.result in
    elim c.if-i-gt0.branch [
      | then-i-gt0+in_ok-put_number_field w ↦
          let out =
          ap (λ out. out.items) w.out-is ∙ w.in_ok-put_number_field.ensures.ok
          ∙ ap (λ items. items ++ 32 ∷ decimal (point + 1)) c.loop-i.invariant in
          block_line-next c.args.block.now before _ c.loop-i.i point (omega arith) c.at.ensures (omega arith) out
      | else-i-gt0+in_ok-put_number w ↦
          let out =
          ap (λ out. out.items) w.out-is ∙ w.in_ok-put_number.ensures.ok
          ∙ ap (λ items. items ++ decimal (point + 1)) c.loop-i.invariant in
          block_line-first c.args.block.now before _ c.loop-i.i point (omega arith) c.at.ensures (omega arith) out
    ]
