use Rattle.std.proofs.Common.{◌∙◌, ap, length, sym, subst, subst₂}
use Rattle.lj_base.specs.Bounds.{AreBounds}
use Rattle.lj_relax.specs.Tickets.{TicketLists}
use Rattle.lj_table.specs.Tables.{Contents, IsOfFirst, contents_of, state_of}
use Rattle.lj_table.proofs.Extending.{first_of_table}
use Rattle.lj_table.proofs.table.Table.copy_into.Goals as goal

pub fill-requires-clause-bounds : goal.fill-requires-clause-bounds
fill-requires-clause-bounds c =
    let frame = c.requires.frame ∙ ap (λ (t : Contents). t.arena.frame) (sym c.self.view_is) in
    let bounds : AreBounds c.self.inside.store.arena.frame c.self.inside.store.bounds.items = record {
      count = c.self.invariant.table.lists.bounds;
      some = c.bounds_are_positive.ensures (state_of (contents_of c.self.inside.store)) c.self.invariant.table.good;
      small = c.self.invariant.table.good.small;
    } in
    subst₂ AreBounds (sym frame) (sym c.deref.ensures.value) bounds

pub returns-clause-latest : goal.returns-clause-latest
returns-clause-latest c =
    let t = contents_of c.self.inside.store in
    subst (λ (x : Contents). IsOfFirst x.arena (length x.arena.rules) c.fill.new.self) c.self.view_is
    (first_of_table t c.fill.new.self c.self.invariant.table
    (ap (λ (q : TicketLists). q.frame) c.fill.ensures ∙ c.requires.frame
    ∙ ap (λ (x : Contents). x.arena.frame) (sym c.self.view_is))
    (ap (λ (q : TicketLists). q.bounds) c.fill.ensures ∙ c.deref.ensures.value)
    (ap (λ (q : TicketLists). q.nodes) c.fill.ensures ∙ c.deref-2.ensures.value))
