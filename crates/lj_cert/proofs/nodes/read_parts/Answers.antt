use Rattle.std.proofs.lemmas.Result.{err_from_is_err_and}
use Rattle.lj_cert.specs.LineForms.{IsPartField}
use Rattle.lj_cert.proofs.FieldLists.{bad-fields, read-more}
use Rattle.lj_cert.proofs.nodes.read_parts.Goals as goal

pub loop-word-preserved : goal.loop-word-preserved
loop-word-preserved c =
    let pushed = c.in_ok-push_part.ensures.ok in
    read-more IsPartField c.args.words _ _ _ _ c.in-Some.word.now pushed.0 c.loop-word.invariant c.in-Some.ensures.steps
    pushed.1 pushed.2

pub returns-in_err-push_part-clause-fault : goal.returns-in_err-push_part-clause-fault
returns-in_err-push_part-clause-fault c =
    let p = err_from_is_err_and c.from_residual.result c.from_residual.ensures.1 in
    rw (p.1, p.2) (bad-fields IsPartField c.args.words _ _ _ c.in-Some.word.now c.args.line _ c.loop-word.invariant
    c.in-Some.ensures.steps c.in_err-push_part.ensures.fault)
