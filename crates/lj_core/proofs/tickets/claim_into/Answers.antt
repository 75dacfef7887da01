use Rattle.std.proofs.Common.{List, Option, subst, sym}
use Rattle.lj_relax.specs.Tickets.{TicketLists}
use Rattle.lj_core.specs.Replays.{HasChanged}
use Rattle.lj_core.specs.declared.events.Event.TheVariants.{Claim}
use Rattle.lj_core.proofs.TableSteps.{claim_steps, no_claim_steps}
use Rattle.lj_core.proofs.tickets.claim_into.Goals as goal

pub returns-in-Cell : goal.returns-in-Cell
returns-in-Cell c =
    subst (λ (l : List (Option TicketLists)). HasChanged c.args.table.now c.args.tickets.now.items
    (Claim c.args.worker) c.claim.new.self l) (sym c.put_held.ensures)
    (claim_steps c.args.table.now c.claim.new.self c.args.ticket c.claim.new.ticket c.args.tickets.now.items
    c.args.worker c.in-Cell.cell c.frame.ensures.table c.requires.ready c.requires.frame c.in-Cell.ensures.claim
    c.claim.ensures.fits)

pub returns-in-NoneOpen : goal.returns-in-NoneOpen
returns-in-NoneOpen c =
    subst (λ (l : List (Option TicketLists)). HasChanged c.args.table.now c.args.tickets.now.items
    (Claim c.args.worker) c.claim.new.self l) (sym c.put_held-in-NoneOpen.ensures)
    (no_claim_steps c.args.table.now c.claim.new.self c.args.ticket c.claim.new.ticket c.args.tickets.now.items
    c.args.worker c.requires.ready c.in-NoneOpen.ensures.claim c.claim.ensures.fits)
