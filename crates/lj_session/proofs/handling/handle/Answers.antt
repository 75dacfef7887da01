use Rattle.std.proofs.lemmas.Result.{IfOk-weaker}
use Rattle.lj_session.proofs.Stepping.{upload_handled}
use Rattle.lj_session.specs.Outcomes.{UploadGives}
use Rattle.lj_session.proofs.handling.handle.Goals as goal

pub returns-in_ok-outcome-in-Upload : goal.returns-in_ok-outcome-in-Upload
returns-in_ok-outcome-in-Upload g c =
    let gives : UploadGives c.args.terms.frame c.args.quota.now c.args.command.now c.in_ok-outcome-in-Upload.outcome
    = rw (c.in-Upload.is, ← c.items.ensures) c.in_ok-outcome-in-Upload.ensures.gives in
    IfOk-weaker c.conclude.result _ _
    (λ ask handles. upload_handled _ _ _ _ c.in_ok-outcome-in-Upload.outcome _ _ ask gives handles) c.conclude.ensures

pub returns-in_ok-outcome-in-UploadFile : goal.returns-in_ok-outcome-in-UploadFile
returns-in_ok-outcome-in-UploadFile g c =
    let gives : UploadGives c.args.terms.frame c.args.quota.now c.args.command.now c.in_ok-outcome-in-UploadFile.outcome
    = rw (c.in-UploadFile.is, ← c.items-in-UploadFile.ensures) c.in_ok-outcome-in-UploadFile.ensures.gives in
    IfOk-weaker c.conclude-in-UploadFile.result _ _
    (λ ask handles. upload_handled _ _ _ _ c.in_ok-outcome-in-UploadFile.outcome _ _ ask gives handles)
    c.conclude-in-UploadFile.ensures
