use Rattle.std.proofs.Common.{◌≡◌, List, [], ◌++◌, length, sym, ap, subst, ◌∙◌, arith}
use Rattle.std.proofs.lemmas.List.{append-nil, length-append}
use Rattle.lj_base.specs.Frames.{Top}
use Rattle.lj_cover.specs.Rules.{Upload}
use Rattle.lj_script.specs.declared.scripts.Command.{Command}
use Rattle.lj_session.specs.Driving.{IsBuilding}
use Rattle.lj_session.specs.Sessions.{SessionValue}
use Rattle.lj_build.specs.Building.{Builds}
use Rattle.lj_build.proofs.Giving.{builds_on, rests_same}
use Rattle.lj_build.proofs.driving.drive.Goals as goal

pub loop-ask-init : goal.loop-ask-init
loop-ask-init g c =
    let s = c.args.session.now in
    let own : s.own ≡ [] = ap (λ (x : SessionValue). x.own) c.requires.start in
    let earlier = c.args.table.now.arena.uploads in (
      record {
        rests = rests_same s.frame earlier (earlier ++ s.own) c.args.table.now
            (sym (append-nil earlier) ∙ ap (λ (us : List Upload). earlier ++ us) (sym own)) c.requires.rests;
        building =
            subst (λ (x : SessionValue). IsBuilding s.frame earlier s.section x) (sym c.requires.start)
            (c.building_law.ensures.start s.frame earlier s.section);
      },
      ap (λ (x : SessionValue). x.ask) c.requires.start,
    )

pub returns-in-Done : goal.returns-in-Done
returns-in-Done g c = record {
  builds = builds_on _ _ _ _ c.loop-ask.session c.step.new.self c.loop-ask.invariant.0 c.in_ok-ask.ensures.goes_on
      (c.building_law.ensures.goes_on _ _ _ _ _ c.loop-ask.invariant.0.building c.in_ok-ask.ensures.goes_on);
  done = rw c.in-Done.is at c.in_ok-ask.ensures.next;
}

pub give-requires : goal.give-requires
give-requires g c =
    let now : Builds c.args.session.now.frame c.args.table.now.arena.uploads c.args.session.now.section
    c.loop-ask.table c.step.new.self
    = builds_on _ _ _ _ c.loop-ask.session c.step.new.self c.loop-ask.invariant.0 c.in_ok-ask.ensures.goes_on
    (c.building_law.ensures.goes_on _ _ _ _ _ c.loop-ask.invariant.0.building c.in_ok-ask.ensures.goes_on) in
    record {
      waits = c.in_ok-ask.ensures.waits;
      next = c.in_ok-ask.ensures.next;
      goes_on = c.in_default.not-Done;
      frame = now.rests.frame ∙ sym now.building.frame_is;
      room =
          omega (
            arith,
            c.requires.room,
            c.in_ok-ask.ensures.few,
            ap (λ (us : List Upload). length us) now.rests.uploads_are,
            length-append c.args.table.now.arena.uploads c.step.new.self.own,
          );
    }

pub loop-ask-preserved : goal.loop-ask-preserved
loop-ask-preserved g c =
    let f = c.args.session.now.frame in
    let earlier = c.args.table.now.arena.uploads in
    let section = c.args.session.now.section in
    let now : Builds f earlier section c.loop-ask.table c.step.new.self
    = builds_on _ _ _ _ c.loop-ask.session c.step.new.self c.loop-ask.invariant.0 c.in_ok-ask.ensures.goes_on
    (c.building_law.ensures.goes_on _ _ _ _ _ c.loop-ask.invariant.0.building c.in_ok-ask.ensures.goes_on) in
    let frame = now.building.frame_is in
    let given = c.in_ok-give-in_default.ensures earlier section
    (subst (λ (x : Top). Builds x earlier section c.loop-ask.table c.step.new.self) (sym frame) now) in
    (subst (λ (x : Top). Builds x earlier section c.give.new.table c.give.new.session) frame given.builds, given.free)

pub loop-ask-smaller : goal.loop-ask-smaller
loop-ask-smaller g c =
    let f = c.args.session.now.frame in
    let earlier = c.args.table.now.arena.uploads in
    let section = c.args.session.now.section in
    let on = c.in_ok-ask.ensures.goes_on in
    let now : Builds f earlier section c.loop-ask.table c.step.new.self
    = builds_on _ _ _ _ c.loop-ask.session c.step.new.self c.loop-ask.invariant.0 on
    (c.building_law.ensures.goes_on _ _ _ _ _ c.loop-ask.invariant.0.building on) in
    let given = c.in_ok-give-in_default.ensures earlier section
    (subst (λ (x : Top). Builds x earlier section c.loop-ask.table c.step.new.self)
    (sym now.building.frame_is) now) in
    omega
    (arith, given.less, ap (λ (cs : List Command). length cs) on.left, length-append on.passed c.step.new.self.left)
