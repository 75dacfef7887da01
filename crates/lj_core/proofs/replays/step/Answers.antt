use Rattle.std.proofs.Common.{refl, subst, sym}
use Rattle.lj_core.specs.Replays.{HasStepped}
use Rattle.lj_core.specs.declared.events.Event.{Event}
use Rattle.lj_core.proofs.TableSteps.{accept_steps}
use Rattle.lj_core.proofs.replays.step.Goals as goal

pub returns-in_ok-accept-in-Accept : goal.returns-in_ok-accept-in-Accept
returns-in_ok-accept-in-Accept c =
    let tickets = c.args.tickets.now.items in
    let reads = c.args.reads.now.items in
    subst (λ (e : Event). HasStepped c.args.table.now tickets reads e c.accept.new.self tickets reads)
    (sym c.in-Accept.is)
    (accept_steps c.args.table.now c.accept.new.self tickets reads reads c.in-Accept.up c.requires.ready
    c.in_ok-accept-in-Accept.ensures.step c.in_ok-accept-in-Accept.ensures.taken c.accept.ensures.fits refl)
