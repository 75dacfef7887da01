use Rattle.std.proofs.Common.{subst, subst₂, sym}
use Rattle.lj_relax.specs.Tickets.{TicketLists}
use Rattle.lj_table.specs.Tables.{Contents, IsOfFirst}
use Rattle.lj_shared.proofs.Changes.{before_more, first_stays, untied}
use Rattle.lj_shared.proofs.locked.Locked.put.Goals as goal

pub put-requires-clause-known : goal.put-requires-clause-known
put-requires-clause-known g c =
    subst (λ (t : Contents). IsOfFirst t.arena c.p.inside.nodes c.p.inside.proposal.ticket) c.table.ensures.table
    (untied g.J.Setting.frame g.J.Setting.history c.self.inside.held c.table.result.now c.p.inside.proposal.ticket
    c.p.inside.nodes c.self.inside.history c.p.inside.reader c.table.ensures.table c.table.ensures.frame
    c.self.invariant.1 c.take_back.ensures.begins c.p.invariant)

pub record_from-requires-clause-changes : goal.record_from-requires-clause-changes
record_from-requires-clause-changes g c =
    before_more c.self.inside.held c.put.new.self c.table.result.now c.table-2.result.now c.node_count-from.result
    c.self.inside.history c.take_back.new.self c.table.ensures.table c.node_count-from.ensures
    c.table-2.ensures.table c.take_back.ensures.same c.put.ensures.extends c.self.invariant.1

pub catch_up-requires : goal.catch_up-requires
catch_up-requires g c =
    let s = c.self.inside.held in
    let n = c.put.new.self in
    let q : TicketLists = c.p.inside.proposal.ticket in
    let first : IsOfFirst s.table.arena c.p.inside.nodes q =
    subst (λ (t : Contents). IsOfFirst t.arena c.p.inside.nodes q) c.table.ensures.table
    (untied g.J.Setting.frame g.J.Setting.history s c.table.result.now q c.p.inside.nodes c.self.inside.history
    c.p.inside.reader c.table.ensures.table c.table.ensures.frame c.self.invariant.1 c.take_back.ensures.begins
    c.p.invariant) in record {
      known = subst₂ (λ (t : Contents) (r : TicketLists). IsOfFirst t.arena c.p.inside.nodes r)
          (sym c.table-3.ensures.table) (sym c.into_ticket-ticket.ensures)
          (first_stays s.table.arena n.table.arena c.p.inside.nodes q first c.put.ensures.extends);
    }
