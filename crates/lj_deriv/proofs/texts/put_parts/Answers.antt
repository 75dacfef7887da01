use Rattle.lj_deriv.proofs.Lines.{Extends-after}
use Rattle.lj_deriv.proofs.Outcomes.{OnErr-always}
use Rattle.lj_deriv.proofs.texts.put_parts.Goals as goal

pub returns-in_err-put_part-clause-err : goal.returns-in_err-put_part-clause-err
returns-in_err-put_part-clause-err c =
    OnErr-always c.from_residual.result
    (Extends-after c.args.out.now.items c.loop-part.out.items c.put_part.new.out.items _ c.loop-part.invariant.list
    c.in_err-put_part.ensures.err)
