use Rattle.lj_cover.specs.Rules.{Upload}
use Rattle.lj_base.specs.Frames.{InFrame}
use Rattle.lj_session.proofs.Accepting.{all_push, waiting_inside}
use Rattle.lj_session.specs.Inside.{session_of}
use Rattle.lj_session.proofs.sessions.Session.told_accept.Goals as goal

pub invariant_of-self-in_err-push : goal.invariant_of-self-in_err-push
invariant_of-self-in_err-push c = record {
  passed = c.self.invariant.passed;
  inside = rw c.in_err-push.ensures.err c.self.invariant.inside;
  written = c.self.invariant.written;
  waits = rw c.take_upload-up.ensures.done tt;
}

pub invariant_of-self-2 : goal.invariant_of-self-2
invariant_of-self-2 c =
    let asked = rw (← c.self.view_is) at c.requires in
    let inside = waiting_inside (session_of c.self.inside) _ c.self.inside.ask asked c.self.invariant.waits in
    record {
      passed = c.self.invariant.passed;
      inside = rw (c.in_ok-push.ensures.ok, c.take_upload-up.ensures.up)
          (all_push (λ (u : Upload). InFrame c.self.inside.terms.frame u.cell) c.self.inside.own _
          c.self.invariant.inside inside);
      written = c.self.invariant.written;
      waits = rw c.take_upload-up.ensures.done tt;
    }
