use Rattle.std.proofs.Common.{◌≡◌, ◌∙◌, List, None, Option, subst, sym}
use Rattle.std.proofs.lemmas.List.Elements.{All-weaker}
use Rattle.std.proofs.lemmas.Option.{IfSome_then}
use Rattle.std.specs.Option.{IfSome}
use Rattle.lj_relax.specs.Tickets.{TicketLists}
use Rattle.lj_table.specs.Tables.{Fits}
use Rattle.lj_core.specs.Replays.{AreReady, HasChanged}
use Rattle.lj_core.specs.declared.events.Event.TheVariants.{Claim}
use Rattle.lj_core.proofs.TableSteps.{claim_over, ready_with}
use Rattle.lj_core.proofs.tickets.claim.Goals as goal

pub take_or_new-requires-clause-frames : goal.take_or_new-requires-clause-frames
take_or_new-requires-clause-frames c =
    All-weaker (λ (held : Option TicketLists). IfSome held (Fits c.args.table.now.arena))
    (λ (held : Option TicketLists). IfSome held (λ q. q.frame ≡ c.frame-frame.result))
    (λ held h. IfSome_then held h (λ q fits. fits.frame ∙ sym c.frame-frame.ensures.frame)) c.args.tickets.now.items
    c.requires.fit

pub claim_into-requires-clause-ready : goal.claim_into-requires-clause-ready
claim_into-requires-clause-ready c =
    let t = c.args.table.now in
    subst (λ (l : List (Option TicketLists)). AreReady t l) (sym c.take_or_new.ensures.left)
    (ready_with t t c.args.tickets.now.items c.args.worker None (λ q h. h) c.requires tt)

pub returns : goal.returns
returns c =
    let t = c.args.table.now in
    claim_over t c.claim_into.new.table c.args.tickets.now.items c.claim_into.new.tickets.items c.args.worker
    (subst (λ (l : List (Option TicketLists)). HasChanged t l (Claim c.args.worker) c.claim_into.new.table
    c.claim_into.new.tickets.items) c.take_or_new.ensures.left c.claim_into.ensures)
