use Rattle.std.proofs.Common.{rules, ◌∙◌, List, None, Option, subst, sym}
use Rattle.std.proofs.lemmas.Result.{on_ok_weaker}
use Rattle.std.proofs.lemmas.List.Elements.{All-get_or}
use Rattle.std.specs.Option.{IfSome}
use Rattle.lj_relax.specs.Tickets.{TicketLists}
use Rattle.lj_table.specs.Tables.{Fits}
use Rattle.lj_core.specs.Replays.{HasChanged}
use Rattle.lj_core.specs.declared.events.Event.TheVariants.{Publish}
use Rattle.lj_core.proofs.TableSteps.{idle_steps, publish_steps}
use Rattle.lj_core.proofs.tickets.publish.Goals as goal

pub publish_ticket-requires : goal.publish_ticket-requires
publish_ticket-requires c =
    let at = sym c.in-Some.is ∙ c.take_held.ensures.held in
    subst (λ (held : Option TicketLists). IfSome held (Fits c.args.table.now.arena)) (sym at)
    (All-get_or (λ (held : Option TicketLists). IfSome held (Fits c.args.table.now.arena)) c.args.tickets.now.items
    c.args.worker None (search rules) c.requires.fit)

pub returns-in-Some : goal.returns-in-Some
returns-in-Some c =
    let t = c.args.table.now in
    let at = sym c.in-Some.is ∙ c.take_held.ensures.held in
    on_ok_weaker c.publish_ticket.result (λ h.
    subst (λ (l : List (Option TicketLists)). HasChanged t c.args.tickets.now.items (Publish c.args.worker)
    c.publish_ticket.new.table l) (sym c.take_held.ensures.left)
    (publish_steps t c.publish_ticket.new.table c.in-Some.ticket c.args.tickets.now.items c.args.worker c.requires at
    h))
    c.publish_ticket.ensures

pub returns-in-None : goal.returns-in-None
returns-in-None c =
    let t = c.args.table.now in
    let at = sym c.in-None.is ∙ c.take_held.ensures.held in
    subst (λ (l : List (Option TicketLists)). HasChanged t c.args.tickets.now.items (Publish c.args.worker) t l)
    (sym c.take_held.ensures.left) (idle_steps t c.args.tickets.now.items c.args.worker c.requires at)
