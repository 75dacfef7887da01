use Rattle.lj_table.specs.Keeping.{PublishesKeeping}
use Rattle.lj_shared.proofs.Changes.{extends_both, extends_room}
use Rattle.lj_shared.proofs.Puts.{put_with_room}
use Rattle.lj_shared.proofs.state.State.put_known.Goals as goal

pub returns-clause-put : goal.returns-clause-put
returns-clause-put c =
    put_with_room PublishesKeeping c.args.self.now.table c.reserve.new.self c.publish_keeping.new.self c.args.p.now
    c.publish_keeping.result
    c.in_ok-reserve.ensures.same (record {
      step = c.publish_keeping.ensures.step;
      untaken = c.publish_keeping.ensures.untaken;
      taken = c.publish_keeping.ensures.taken;
      nodes = c.publish_keeping.ensures.nodes;
    })

pub returns-clause-extends : goal.returns-clause-extends
returns-clause-extends c =
    extends_both c.args.self.now.table.arena c.reserve.new.self.arena c.publish_keeping.new.self.arena
    (extends_room c.args.self.now.table c.reserve.new.self c.in_ok-reserve.ensures.same)
    c.publish_keeping.ensures.extends

pub returns-clause-stay : goal.returns-clause-stay
returns-clause-stay c q fits = c.publish_keeping.ensures.fits q (c.in_ok-reserve.ensures.fits q fits)
