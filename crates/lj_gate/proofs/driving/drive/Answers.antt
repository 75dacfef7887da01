use Rattle.std.proofs.Common.{List, length, sym, ap, subst, ◌∙◌, arith}
use Rattle.std.proofs.lemmas.List.{length-append}
use Rattle.lj_board.specs.Seen.{seen_of}
use Rattle.lj_script.specs.declared.scripts.Command.{Command}
use Rattle.lj_session.specs.Driving.{IsServing}
use Rattle.lj_session.specs.Sessions.{SessionValue}
use Rattle.lj_gate.proofs.Joined.{falls_refl, falls_trans}
use Rattle.lj_gate.proofs.driving.drive.Goals as goal

pub loop-ask-init : goal.loop-ask-init
loop-ask-init g c =
    let f = g.S.Serving.frame in
    let sections = g.S.Serving.sections in
    let s = c.args.session.now in
    let seen = seen_of c.args.pass.now in
    record {
      serving = subst (λ (x : SessionValue). IsServing f seen sections s.section seen x) (sym c.requires.session.start)
          (c.serving_law.ensures.start f sections s.section seen);
      free = ap (λ (x : SessionValue). x.ask) c.requires.session.start;
      falls = falls_refl c.args.pass.now;
    }

pub returns-in-Done : goal.returns-in-Done
returns-in-Done g c = record {
  serving = c.serving_law.ensures.goes_on _ _ _ _ _ _ _ c.loop-ask.invariant.serving c.in_ok-ask.ensures.goes_on;
  done = rw c.in-Done.is at c.in_ok-ask.ensures.next;
  falls = c.loop-ask.invariant.falls;
}

pub give-requires : goal.give-requires
give-requires g c =
    let f = g.S.Serving.frame in
    let sections = g.S.Serving.sections in
    let section = c.args.session.now.section in
    let limit = seen_of c.args.pass.now in
    let seen = seen_of c.loop-ask.pass in
    let now : IsServing f limit sections section seen c.step.new.self
    = c.serving_law.ensures.goes_on f limit sections section seen c.loop-ask.session c.step.new.self
    c.loop-ask.invariant.serving c.in_ok-ask.ensures.goes_on in
    record {
      pass = c.loop-ask.invariant.falls.0 ∙ c.requires.pass;
      frame = now.frame_is;
      waits = c.in_ok-ask.ensures.waits;
      next = c.in_ok-ask.ensures.next;
      goes_on = c.in_default.not-Done;
      asks = λ u asking. c.serving_law.ensures.asks f limit sections section seen c.step.new.self u
          c.requires.session.member now asking;
      own = c.serving_law.ensures.own f limit sections section seen c.step.new.self c.requires.session.member now;
    }

pub loop-ask-preserved : goal.loop-ask-preserved
loop-ask-preserved g c =
    let f = g.S.Serving.frame in
    let sections = g.S.Serving.sections in
    let section = c.args.session.now.section in
    let limit = seen_of c.args.pass.now in
    let now : IsServing f limit sections section (seen_of c.loop-ask.pass) c.step.new.self
    = c.serving_law.ensures.goes_on f limit sections section (seen_of c.loop-ask.pass) c.loop-ask.session
    c.step.new.self c.loop-ask.invariant.serving c.in_ok-ask.ensures.goes_on in
    let given = c.in_ok-give-in_default.ensures in
    record {
      serving = given.serving limit section now;
      free = given.passes.free;
      falls = falls_trans c.args.pass.now c.loop-ask.pass c.give.new.pass c.loop-ask.invariant.falls given.falls;
    }

pub loop-ask-smaller : goal.loop-ask-smaller
loop-ask-smaller g c =
    let on = c.in_ok-ask.ensures.goes_on in
    omega (
      arith,
      c.in_ok-give-in_default.ensures.passes.less,
      ap (λ (cs : List Command). length cs) on.left,
      length-append on.passed c.step.new.self.left,
    )
