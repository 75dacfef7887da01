use Rattle.std.proofs.Common.{◌≡◌, ◌∙◌, ◌↔◌, sym, ap, subst, true, false}
use Rattle.lj_base.specs.Frames.{InFrame, index_of}
use Rattle.lj_relax.specs.Found.{found_cost}
use Rattle.lj_relax.specs.Steps.{IsLeastPrice, Publishes}
use Rattle.lj_relax.specs.Tickets.{TicketLists, snapshot_of}
use Rattle.lj_table.specs.Lowering.{AgreesWith}
use Rattle.lj_table.specs.Tables.{Contents, Extends, Fits, contents_of, is_taken, state_of}
use Rattle.lj_table.specs.Settling.{NoneCheaper}
use Rattle.lj_table.proofs.Publications.{kept_least, step_is, table_is, taken_kept}
use Rattle.lj_table.proofs.Rested.{still_rested_same}
use Rattle.lj_table.proofs.table.Table.publish_checked.Goals as goal

fits_before : (c : goal.After-give_back) → Fits c.self.inside.store.arena c.args.p.now.ticket
fits_before c = subst (λ (x : Contents). Fits x.arena c.args.p.now.ticket) (sym c.self.view_is) c.requires.fits

own : (c : goal.After-give_back) → InFrame c.args.p.now.ticket.frame c.args.p.now.ticket.cell
own c =
    subst (λ (q : TicketLists). InFrame q.frame q.cell) c.ticket-ticket.ensures
    (subst (λ d. InFrame c.ticket-ticket.result.now.frame d) c.cell.ensures.cell c.cell.ensures.inside)

inside : (c : goal.After-give_back) → InFrame c.self.inside.store.arena.frame c.args.p.now.ticket.cell
inside c = subst (λ f. InFrame f c.args.p.now.ticket.cell) (fits_before c).frame (own c)

at : (c : goal.After-give_back) → c.index-i.result ≡ index_of c.self.inside.store.arena.frame c.args.p.now.ticket.cell
at c =
    c.index-i.ensures.index
    ∙ ap (λ f. index_of f c.cell.result) (c.frame.ensures ∙ c.lower-lowered.ensures.frame)
    ∙ ap (index_of c.self.inside.store.arena.frame)
    (c.cell.ensures.cell ∙ ap (λ (q : TicketLists). q.cell) c.ticket-ticket.ensures)

agrees : (c : goal.After-give_back) → (c.args.agreed ≡ true)
    ↔ AgreesWith c.self.inside.store.arena c.self.inside.store.bounds.items c.args.p.now.ticket
agrees c =
    subst (λ (x : Contents). (c.args.agreed ≡ true) ↔ AgreesWith x.arena x.bounds c.args.p.now.ticket)
    (sym c.self.view_is) c.requires.agreed

pub invariant_of-self : goal.invariant_of-self
invariant_of-self c =
    record {
      table = table_is (contents_of c.self.inside.store)
          (contents_of c.lower-lowered.new.self) c.args.p.now c.lower-lowered.result
          c.args.agreed c.index-i.result c.give_back.new.closed c.give_back.new.busy c.self.invariant.table
          (fits_before c) (inside c)
          (at c) c.lower-lowered.ensures c.give_back.ensures (agrees c) c.rows_are_of_uploads.ensures.rows
          c.publish_keeps_good.ensures c.nodes_derive.ensures (own c)
          (subst (IsLeastPrice c.args.p.now.ticket.frame (snapshot_of c.args.p.now.ticket)) c.cost.ensures.cost
          c.cost.ensures.least);
      known = still_rested_same c.self.inside.store.arena c.lower-lowered.new.self.arena
          c.self.inside.store.bounds.items c.lower-lowered.new.self.bounds.items c.self.inside.rest
          c.lower-lowered.ensures.frame c.lower-lowered.ensures.uploads c.lower-lowered.ensures.grown
          c.self.invariant.known;
    }

pub returns-clause-step : goal.returns-clause-step
returns-clause-step c =
    subst (λ (x : Contents). Publishes (state_of x) (snapshot_of c.args.p.now.ticket) (found_cost c.args.p.now.found)
    c.lower-lowered.result c.args.agreed
    (state_of (record (contents_of c.lower-lowered.new.self)
    { closed = c.give_back.new.closed; busy = c.give_back.new.busy })))
    c.self.view_is
    (step_is (contents_of c.self.inside.store)
    (contents_of c.lower-lowered.new.self) c.args.p.now c.lower-lowered.result
    c.args.agreed c.index-i.result c.give_back.new.closed c.give_back.new.busy c.self.invariant.table
    (fits_before c) (inside c) (at c) c.lower-lowered.ensures c.give_back.ensures (agrees c))

pub returns-clause-taken : goal.returns-clause-taken
returns-clause-taken c d h other =
    subst (λ (x : Contents). InFrame x.arena.frame d
    → is_taken (record (contents_of c.lower-lowered.new.self)
    { closed = c.give_back.new.closed; busy = c.give_back.new.busy }) d
    ≡ is_taken x d)
    c.self.view_is
    (λ k. taken_kept (contents_of c.self.inside.store)
    (contents_of c.lower-lowered.new.self) c.args.p.now c.lower-lowered.result
    c.args.agreed c.index-i.result c.give_back.new.closed c.give_back.new.busy c.self.invariant.table
    (fits_before c) (inside c) (at c) c.lower-lowered.ensures c.give_back.ensures (agrees c) d k other) h

pub returns-clause-fits : goal.returns-clause-fits
returns-clause-fits c q h =
    c.lower-lowered.ensures.fits q (subst (λ (x : Contents). Fits x.arena q) (sym c.self.view_is) h)

pub returns-clause-least : goal.returns-clause-least
returns-clause-least c d h was low =
    subst (λ (x : Contents). InFrame x.arena.frame d → (state_of x).pending d ≡ false
    → NoneCheaper c.lower-lowered.new.self.arena.frame c.lower-lowered.new.self.bounds.items
    c.lower-lowered.new.self.arena.uploads d) c.self.view_is
    (λ there closed. kept_least (contents_of c.self.inside.store) (contents_of c.lower-lowered.new.self) c.args.p.now
    c.lower-lowered.result c.args.agreed c.index-i.result c.give_back.new.closed c.give_back.new.busy
    c.self.invariant.table (fits_before c) (inside c) (at c) c.lower-lowered.ensures c.give_back.ensures (agrees c)
    c.rows_are_of_uploads.ensures.rows c.cheap_cells_stay_least.ensures c.nodes_derive.ensures (own c)
    (subst (IsLeastPrice c.args.p.now.ticket.frame (snapshot_of c.args.p.now.ticket)) c.cost.ensures.cost
    c.cost.ensures.least) d there closed low) h was

pub returns-clause-extends : goal.returns-clause-extends
returns-clause-extends c =
    subst (λ (x : Contents). Extends x.arena c.lower-lowered.new.self.arena) c.self.view_is
    c.lower-lowered.ensures.extends
