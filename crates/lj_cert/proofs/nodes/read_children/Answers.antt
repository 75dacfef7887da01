use Rattle.std.proofs.lemmas.Result.{err_from_is_err_and}
use Rattle.lj_cert.specs.LineForms.{IsChildField}
use Rattle.lj_cert.proofs.FieldLists.{bad-fields, read-more}
use Rattle.lj_cert.proofs.nodes.read_children.Goals as goal

pub loop-word-preserved : goal.loop-word-preserved
loop-word-preserved c =
    let pushed = c.in_ok-push_child.ensures.ok in
    read-more IsChildField c.args.words _ _ _ _ c.in-Some.word.now pushed.0 c.loop-word.invariant
    c.in-Some.ensures.steps pushed.1 pushed.2

pub returns-in_err-push_child-clause-fault : goal.returns-in_err-push_child-clause-fault
returns-in_err-push_child-clause-fault c =
    let p = err_from_is_err_and c.from_residual.result c.from_residual.ensures.1 in
    rw (p.1, p.2) (bad-fields IsChildField c.args.words _ _ _ c.in-Some.word.now c.args.line _ c.loop-word.invariant
    c.in-Some.ensures.steps c.in_err-push_child.ensures.fault)
