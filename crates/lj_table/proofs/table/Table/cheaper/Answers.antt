use Rattle.std.proofs.Common.{◌≤◌, ℕ, List, ◌∙◌, ap, sym, subst, subst₂}
use Rattle.lj_base.specs.Bounds.{AreBounds, at_cell}
use Rattle.lj_base.specs.Frames.{Top}
use Rattle.lj_cover.specs.Instances.{rows_at}
use Rattle.lj_relax.specs.Steps.{IsPrice}
use Rattle.lj_relax.specs.Tickets.{snapshot}
use Rattle.lj_table.specs.Settling.{NoneCheaper}
use Rattle.lj_table.specs.Tables.{Contents, contents_of, state_of}
use Rattle.lj_table.proofs.Rested.{none_priced}
use Rattle.lj_table.proofs.table.Table.cheaper.Goals as goal

pub instance_below-requires-clause-bounds : goal.instance_below-requires-clause-bounds
instance_below-requires-clause-bounds c =
    let t = contents_of c.self.inside.store in
    let bounds : AreBounds t.arena.frame t.bounds = record {
      count = c.self.invariant.table.lists.bounds;
      some = c.bounds_are_positive.ensures (state_of t) c.self.invariant.table.good;
      small = c.self.invariant.table.good.small;
    } in
    subst₂ AreBounds (sym c.frame-frame.ensures) (sym c.deref.ensures.value) bounds

pub returns-clause-none : goal.returns-clause-none
returns-clause-none c = λ e.
    let t = contents_of c.self.inside.store in
    let low : (n : ℕ) → IsPrice t.arena.frame (snapshot t.arena.frame c.args.c t.bounds c.args.rows.now) n
    → at_cell t.arena.frame t.bounds c.args.c ≤ n =
    subst₂ (λ (f : Top) (bs : List ℕ). (n : ℕ) → IsPrice f (snapshot f c.args.c bs c.args.rows.now) n
    → at_cell t.arena.frame t.bounds c.args.c ≤ n) c.frame-frame.ensures c.deref.ensures.value
    (subst (λ m. (n : ℕ) → IsPrice c.frame-frame.result
    (snapshot c.frame-frame.result c.args.c c.deref.result.now c.args.rows.now) n → m ≤ n) c.bound.ensures
    (c.instance_below.ensures.none e)) in
    subst (λ (x : Contents). NoneCheaper x.arena.frame x.bounds x.arena.uploads c.args.c) c.self.view_is
    (none_priced c.rows_are_of_uploads.ensures.rows c.price_by_row.ensures.by_row t c.self.invariant.table c.args.c
    c.args.rows.now
    (c.requires.rows ∙ ap (λ (x : Contents). rows_at x.arena.uploads c.args.c) (sym c.self.view_is)) low)
