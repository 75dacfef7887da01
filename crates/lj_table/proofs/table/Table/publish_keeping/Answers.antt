use Rattle.std.proofs.Common.{◌≡◌, ◌∙◌, ap, sym, subst, false}
use Rattle.lj_base.specs.Frames.{InFrame}
use Rattle.lj_relax.specs.Found.{found_cost}
use Rattle.lj_relax.specs.Tickets.{TicketLists, snapshot_of}
use Rattle.lj_table.specs.Keeping.{OnlyShuts}
use Rattle.lj_table.specs.Settling.{IsKept}
use Rattle.lj_table.specs.Tables.{state_of}
use Rattle.lj_table.proofs.Keeping.{kept_at, kept_same, keeping, keeping_taken, only_both, only_closed}
use Rattle.lj_table.proofs.table.Table.publish_keeping.Goals as goal

pub keep-requires-clause-least : goal.keep-requires-clause-least
keep-requires-clause-least c =
    let cell = sym (c.cell-c.ensures.cell ∙ ap (λ (q : TicketLists). q.cell) c.ticket-3.ensures) in
    subst (λ d. IsKept d c.publish_checked-lowered.new.self.arena c.publish_checked-lowered.new.self.bounds
    c.if_closed-fewer_points.result) cell
    (kept_at c.args.self.now c.publish_checked-lowered.new.self c.args.p.now.ticket.cell
    c.publish_checked-lowered.ensures.least c.if_closed-fewer_points.result c.if_closed-fewer_points.ensures.inside
    c.if_closed-fewer_points.ensures.closed)

pub keep-requires-2-clause-least : goal.keep-requires-2-clause-least
keep-requires-2-clause-least c =
    let cell = sym (c.cell-c.ensures.cell ∙ ap (λ (q : TicketLists). q.cell) c.ticket-3.ensures) in
    subst (λ d. IsKept d c.keep.new.self.arena c.keep.new.self.bounds c.if_closed-smaller_sets.result) cell
    (kept_same c.args.p.now.ticket.cell c.publish_checked-lowered.new.self c.keep.new.self
    c.if_closed-smaller_sets.result c.keep.ensures.arena c.keep.ensures.bounds
    (kept_at c.args.self.now c.publish_checked-lowered.new.self c.args.p.now.ticket.cell
    c.publish_checked-lowered.ensures.least c.if_closed-smaller_sets.result c.if_closed-smaller_sets.ensures.inside
    c.if_closed-smaller_sets.ensures.closed))

pub keep-requires-3-clause-least : goal.keep-requires-3-clause-least
keep-requires-3-clause-least c =
    let cell = sym (c.cell-c.ensures.cell ∙ ap (λ (q : TicketLists). q.cell) c.ticket-3.ensures) in
    subst (λ d. IsKept d c.keep-2.new.self.arena c.keep-2.new.self.bounds c.if_closed-larger_blocks.result) cell
    (kept_same c.args.p.now.ticket.cell c.keep.new.self c.keep-2.new.self c.if_closed-larger_blocks.result
    c.keep-2.ensures.arena c.keep-2.ensures.bounds
    (kept_same c.args.p.now.ticket.cell c.publish_checked-lowered.new.self c.keep.new.self
    c.if_closed-larger_blocks.result c.keep.ensures.arena c.keep.ensures.bounds
    (kept_at c.args.self.now c.publish_checked-lowered.new.self c.args.p.now.ticket.cell
    c.publish_checked-lowered.ensures.least c.if_closed-larger_blocks.result c.if_closed-larger_blocks.ensures.inside
    c.if_closed-larger_blocks.ensures.closed)))

only : (c : goal.After-keep-3) → OnlyShuts (λ d. (state_of c.args.self.now).pending d ≡ false)
    c.publish_checked-lowered.new.self c.keep-3.new.self
only c =
    let t = c.args.self.now in
    only_both (λ d. (state_of c.args.self.now).pending d ≡ false) c.publish_checked-lowered.new.self c.keep-2.new.self
    c.keep-3.new.self
    (only_both (λ d. (state_of c.args.self.now).pending d ≡ false) c.publish_checked-lowered.new.self c.keep.new.self
    c.keep-2.new.self
    (only_closed c.args.self.now c.publish_checked-lowered.new.self c.keep.new.self c.if_closed-fewer_points.result
    c.if_closed-fewer_points.ensures.closed c.keep.ensures.only)
    (only_closed c.args.self.now c.keep.new.self c.keep-2.new.self c.if_closed-smaller_sets.result
    c.if_closed-smaller_sets.ensures.closed c.keep-2.ensures.only))
    (only_closed c.args.self.now c.keep-2.new.self c.keep-3.new.self c.if_closed-larger_blocks.result
    c.if_closed-larger_blocks.ensures.closed c.keep-3.ensures.only)

pub returns-clause-step : goal.returns-clause-step
returns-clause-step c =
    keeping c.args.self.now c.publish_checked-lowered.new.self c.keep-3.new.self (only c)
    (snapshot_of c.args.p.now.ticket) (found_cost c.args.p.now.found) c.publish_checked-lowered.result
    c.agrees_since-agreed.result c.publish_checked-lowered.ensures.step

pub returns-clause-taken : goal.returns-clause-taken
returns-clause-taken c d at other =
    keeping_taken c.args.self.now c.publish_checked-lowered.new.self c.keep-3.new.self (only c) d
    (subst (λ f. InFrame f d) (sym c.publish_checked-lowered.ensures.extends.frame) at)
    (c.publish_checked-lowered.ensures.taken d at other)
