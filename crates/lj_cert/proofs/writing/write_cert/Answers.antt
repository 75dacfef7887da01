use Rattle.std.proofs.lemmas.Result.{on_err_weaker}
use Rattle.lj_cert.proofs.PutLines.{extends-front}
use Rattle.lj_cert.proofs.writing.write_cert.Goals as goal

pub returns-clause-err : goal.returns-clause-err
returns-clause-err c =
    let text = c.put_bounds.new.out.items in
    on_err_weaker c.put_bounds.result
    (λ after_bounds.
    let after_nodes = extends-front c.text.new.out.items c.put-2.new.out.items text _ c.in_ok-put-2.ensures.ok
    after_bounds in
    let before_nodes = extends-front c.put.new.out.items c.text.new.out.items text _ c.in_ok-text.ensures.ok
    after_nodes in
    let after_uploads = extends-front c.put_uploads.new.out.items c.put.new.out.items text _ c.in_ok-put.ensures.ok
    before_nodes in
    let after_frame = extends-front c.put_frame.new.out.items c.put_uploads.new.out.items text _
    c.in_ok-put_uploads.ensures.ok after_uploads in
    extends-front c.args.out.now.items c.put_frame.new.out.items text _ c.in_ok-put_frame.ensures.ok after_frame)
    c.put_bounds.ensures.err
