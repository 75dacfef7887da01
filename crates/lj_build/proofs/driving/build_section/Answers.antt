use Rattle.std.proofs.Common.{subst}
use Rattle.lj_session.specs.Sessions.{SessionValue}
use Rattle.lj_build.specs.Building.{Builds}
use Rattle.lj_build.proofs.driving.build_section.Goals as goal

pub returns : goal.returns
returns g c =
    let earlier = c.args.table.now.arena.uploads in
    let t = c.drive.new.table in
    let s = c.drive.new.session in
    let built : Builds c.args.frame earlier c.args.section t s
    = subst (λ (x : SessionValue). Builds x.frame earlier x.section t s) c.in_ok-session.ensures
    c.in_ok-drive.ensures.builds in
    let done = c.building_law.ensures.done c.args.frame earlier c.args.section s built.building
    c.in_ok-drive.ensures.done in record {
      replies = rw c.finish.ensures.replies done.0;
      accepted = rw c.finish.ensures.accepted done.1;
      rests = rw c.finish.ensures.accepted built.rests;
      few = c.finish.ensures.few;
    }
