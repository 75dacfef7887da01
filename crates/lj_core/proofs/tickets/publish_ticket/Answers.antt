use Rattle.std.proofs.Common.{subst, sym}
use Rattle.lj_relax.specs.Tickets.{TicketLists}
use Rattle.lj_table.specs.Tables.{Fits}
use Rattle.lj_core.proofs.TableSteps.{publication_is}
use Rattle.lj_core.proofs.tickets.publish_ticket.Goals as goal

pub publish-outcome-requires-clause-fits : goal.publish-outcome-requires-clause-fits
publish-outcome-requires-clause-fits c =
    subst (λ (q : TicketLists). Fits c.reserve.new.self.arena q) (sym c.evaluate-proposal.ensures.ticket)
    (c.reserve.ensures.fits c.args.ticket c.requires)

pub returns : goal.returns
returns c =
    publication_is c.args.table.now c.reserve.new.self c.publish-outcome.new.self c.args.ticket
    c.evaluate-proposal.result c.cost.result c.publish-outcome.result.lowered c.publish-outcome.result.agreed
    c.reserve.ensures.same c.evaluate-proposal.ensures.ticket c.requires c.cost.ensures.cost c.cost.ensures.least
    c.publish-outcome.ensures.step c.publish-outcome.ensures.untaken c.publish-outcome.ensures.taken
    (λ r h. c.publish-outcome.ensures.fits r (c.reserve.ensures.fits r h))
