use Rattle.std.proofs.Common.{◌≡◌, ◌≢◌, ◌∙◌, ◌<◌, sym, ap, arith, subst, subst₂}
use Rattle.lj_base.specs.Bounds.{at_cell}
use Rattle.lj_base.specs.Cells.{Triple}
use Rattle.lj_base.specs.Frames.{InFrame, Top}
use Rattle.lj_cover.specs.Instances.{Reads}
use Rattle.lj_relax.specs.Tickets.{TicketLists}
use Rattle.lj_table.specs.Lowering.{IsStored}
use Rattle.lj_table.specs.Opening.{IsOpened}
use Rattle.lj_table.specs.Tables.{contents_of}
use Rattle.lj_table.proofs.Publications.{lowered_by}
use Rattle.lj_table.proofs.store.Store.lower.Goals as goal

pub returns : goal.returns
returns c =
    let p = c.args.p.now in
    let cell : c.cell-c.result ≡ c.args.p.now.ticket.cell = c.cell-c.ensures.cell ∙ ap
    (λ (q : TicketLists). q.cell) c.ticket-ticket.ensures in
    let frame : c.frame-frame.result ≡ c.args.self.now.arena.frame =
    c.frame-frame.ensures ∙ ap (λ (q : TicketLists). q.frame) c.ticket-ticket.ensures ∙ c.requires.fits.frame in
    let inside : InFrame c.args.self.now.arena.frame c.args.p.now.ticket.cell =
    subst₂ InFrame (ap (λ (q : TicketLists). q.frame) c.ticket-ticket.ensures ∙ c.requires.fits.frame) cell
    c.cell-c.ensures.inside in
    let low : c.in-Some.cost < at_cell c.args.self.now.arena.frame c.args.self.now.bounds.items
    c.args.p.now.ticket.cell =
    subst (λ d. c.in-Some.cost < at_cell c.args.self.now.arena.frame c.args.self.now.bounds.items d) cell
    (omega (arith, c.if-cost-bound.false, c.bound.ensures)) in
    let opened = subst₂
    (λ (g : Top) (d : Triple). IsOpened g (λ e. (e ≢ d) × Reads g e d) c.put.new.self.closed c.put.new.self.busy
    c.open_readers.new.closed c.open_readers.new.busy) frame cell c.open_readers.ensures in
    lowered_by (contents_of c.args.self.now) c.args.p.now c.in-Some.cost
    (contents_of c.put.new.self) c.open_readers.new.closed
    c.open_readers.new.busy inside c.requires.lists (sym c.cost.ensures.cost ∙ c.in-Some.is) low
    (subst (λ d. IsStored (contents_of c.args.self.now) d c.in-Some.cost (contents_of c.put.new.self)) cell
    c.put.ensures)
    (subst₂ (λ x y. IsOpened c.args.self.now.arena.frame
    (λ e. (e ≢ c.args.p.now.ticket.cell) × Reads c.args.self.now.arena.frame e c.args.p.now.ticket.cell) x y
    c.open_readers.new.closed c.open_readers.new.busy) c.put.ensures.closed c.put.ensures.busy opened)
