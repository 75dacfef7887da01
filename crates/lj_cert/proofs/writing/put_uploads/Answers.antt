use Rattle.lj_cert.proofs.PutLines.{always, extends-front}
use Rattle.lj_cert.proofs.writing.put_uploads.Goals as goal

pub returns-in_err-put_upload-clause-err : goal.returns-in_err-put_upload-clause-err
returns-in_err-put_upload-clause-err c =
    always c.from_residual.result
    (extends-front c.args.out.now.items c.loop-up.out.items c.put_upload.new.out.items _ c.loop-up.invariant
    c.in_err-put_upload.ensures.err)
