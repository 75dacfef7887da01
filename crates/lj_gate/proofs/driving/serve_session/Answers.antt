use Rattle.lj_board.specs.Seen.{seen_of}
use Rattle.lj_gate.proofs.driving.serve_session.Goals as goal

pub returns : goal.returns
returns g c =
    let s = c.args.session in
    let p = c.args.pass.now in
    let serving = c.in_ok-drive.ensures.serving in
    let done = c.serving_law.ensures.done g.S.Serving.frame (seen_of p) g.S.Serving.sections s.section
    (seen_of c.drive.new.pass) c.drive.new.session serving c.in_ok-drive.ensures.done in
    let uses = c.serving_law.ensures.uses g.S.Serving.frame (seen_of p) g.S.Serving.sections s.section
    (seen_of c.drive.new.pass) c.drive.new.session serving in
    record {
      end = record {
        served = record {
          replies = rw c.finish.ensures.replies (done.0);
          accepted = rw c.finish.ensures.accepted (done.1);
          few = c.finish.ensures.few;
        };
        uses = rw c.finish.ensures.accepted uses;
      };
      falls = c.drive.ensures.falls;
    }
