use Rattle.lj_relax.specs.Steps.{Publishes}
use Rattle.lj_shared.proofs.Puts.{put_with_room}
use Rattle.lj_shared.proofs.state.State.put.Goals as goal

pub returns-clause-put : goal.returns-clause-put
returns-clause-put c =
    put_with_room Publishes c.args.self.now.table c.reserve.new.self c.publish_fitting.new.self c.args.p.now
    c.publish_fitting.result
    c.in_ok-reserve.ensures.same (record {
      step = c.publish_fitting.ensures.step;
      untaken = c.publish_fitting.ensures.untaken;
      taken = c.publish_fitting.ensures.taken;
      nodes = c.publish_fitting.ensures.nodes;
    })

pub returns-clause-stay : goal.returns-clause-stay
returns-clause-stay c q fits = c.publish_fitting.ensures.fits q (c.in_ok-reserve.ensures.fits q fits)
