use Rattle.std.proofs.Common.{◌≡◌, ◌∙◌, ◌↔◌, All, false, sym, ap, refl, subst, true}
use Rattle.lj_base.specs.Frames.{InFrame, index_of}
use Rattle.lj_cover.specs.Instances.{IsRowOf, rows_at}
use Rattle.lj_relax.specs.Found.{Evaluation, found_cost}
use Rattle.lj_relax.specs.Steps.{IsLeastPrice}
use Rattle.lj_relax.specs.Tickets.{snapshot, snapshot_of}
use Rattle.lj_table.specs.Lowering.{AgreesWith}
use Rattle.lj_table.specs.Settling.{IsFallenAt, IsLater, NoneCheaper}
use Rattle.lj_table.specs.Tables.{Contents, Fits, contents_of, mark_at, state_of}
use Rattle.lj_table.proofs.Publications.{fallen_at, kept_least, later_is, table_is}
use Rattle.lj_table.proofs.Rested.{still_rested_same}
use Rattle.lj_table.proofs.RowLists.{all_of}
use Rattle.lj_table.proofs.table.Table.lower.Goals as goal

evaluation : goal.After-give_back → Evaluation
evaluation c = record {
  ticket = record {
    frame = c.self.inside.store.arena.frame;
    cell = c.args.c;
    bounds = c.self.inside.store.bounds.items;
    nodes = c.self.inside.store.nodes.items;
    rows = c.args.rows.now;
    room = 0;
  };
  found = c.args.found.now;
}

rows_is : (c : goal.After-give_back) → c.args.rows.now ≡ rows_at c.self.inside.store.arena.uploads c.args.c
rows_is c = c.requires.rows ∙ ap (λ (t : Contents). rows_at t.arena.uploads c.args.c) (sym c.self.view_is)

inside : (c : goal.After-give_back) → InFrame c.self.inside.store.arena.frame c.args.c
inside c = subst (λ (t : Contents). InFrame t.arena.frame c.args.c) (sym c.self.view_is) c.requires.first.inside

fits : (c : goal.After-give_back) → Fits c.self.inside.store.arena (evaluation c).ticket
unfolding evaluation
fits c =
    let us = c.self.inside.store.arena.uploads in
    record {
      frame = refl;
      nodes = c.self.invariant.table.nodes;
      rows = subst (All (IsRowOf us c.args.c)) (sym (rows_is c))
          (all_of (IsRowOf us c.args.c) (rows_at us c.args.c)
          (λ r h. (c.rows_are_of_uploads.ensures.rows us c.args.c r).0 h));
    }

agrees : (c : goal.After-give_back) → (true ≡ true)
    ↔ AgreesWith c.self.inside.store.arena c.self.inside.store.bounds.items (evaluation c).ticket
unfolding evaluation
agrees c = (λ _. record { rows = rows_is c; bounds = λ d at reads. refl }, λ _. refl)

at_it : (c : goal.After-give_back) → c.index.result ≡ index_of c.self.inside.store.arena.frame c.args.c
at_it c = c.index.ensures.index ∙ ap (λ f. index_of f c.args.c) c.frame-frame.ensures

least : (c : goal.After-give_back) → IsLeastPrice c.self.inside.store.arena.frame (snapshot_of (evaluation c).ticket)
    (found_cost (evaluation c).found)
unfolding evaluation
least c =
    subst (λ (t : Contents). IsLeastPrice t.arena.frame (snapshot t.arena.frame c.args.c t.bounds c.args.rows.now)
    (found_cost c.args.found.now)) (sym c.self.view_is) c.requires.found.price

pub invariant_of-self : goal.invariant_of-self
unfolding evaluation
invariant_of-self c =
    record {
      table = table_is (contents_of c.self.inside.store) (contents_of c.lower_here.new.self) (evaluation c)
          true true c.index.result c.give_back.new.closed c.give_back.new.busy
          c.self.invariant.table (fits c) (inside c) (at_it c) c.lower_here.ensures c.give_back.ensures (agrees c)
          c.rows_are_of_uploads.ensures.rows c.publish_keeps_good.ensures c.nodes_derive.ensures (inside c) (least c);
      known = still_rested_same c.self.inside.store.arena c.lower_here.new.self.arena
          c.self.inside.store.bounds.items c.lower_here.new.self.bounds.items c.self.inside.rest
          c.lower_here.ensures.frame c.lower_here.ensures.uploads c.lower_here.ensures.grown
          c.self.invariant.known;
    }

pub returns-clause-later : goal.returns-clause-later
unfolding evaluation
returns-clause-later c =
    let was = subst (λ (t : Contents). mark_at t.arena.frame t.closed c.args.c ≡ false) (sym c.self.view_is)
    c.requires.first.unmarked in
    subst (λ (x : Contents). IsLater x (record (contents_of c.lower_here.new.self)
    { closed = c.give_back.new.closed; busy = c.give_back.new.busy })) c.self.view_is
    (later_is (contents_of c.self.inside.store) (contents_of c.lower_here.new.self) (evaluation c)
    true true c.index.result c.give_back.new.closed c.give_back.new.busy c.self.invariant.table
    (fits c) (inside c) (at_it c) c.lower_here.ensures c.give_back.ensures (agrees c) refl was)

pub returns-clause-fallen : goal.returns-clause-fallen
unfolding evaluation
returns-clause-fallen c =
    subst (λ (x : Contents). IsFallenAt (index_of x.arena.frame c.args.c) x.bounds c.lower_here.new.self.bounds.items)
    c.self.view_is
    (fallen_at (contents_of c.self.inside.store) (evaluation c) (contents_of c.lower_here.new.self)
    c.lower_here.ensures)

pub returns-clause-least : goal.returns-clause-least
unfolding evaluation
returns-clause-least c d h was low =
    subst (λ (x : Contents). InFrame x.arena.frame d → (state_of x).pending d ≡ false
    → NoneCheaper c.lower_here.new.self.arena.frame c.lower_here.new.self.bounds.items
    c.lower_here.new.self.arena.uploads d) c.self.view_is
    (λ at closed. kept_least (contents_of c.self.inside.store) (contents_of c.lower_here.new.self) (evaluation c) true
    true c.index.result c.give_back.new.closed c.give_back.new.busy c.self.invariant.table (fits c) (inside c) (at_it c)
    c.lower_here.ensures c.give_back.ensures (agrees c) c.rows_are_of_uploads.ensures.rows
    c.cheap_cells_stay_least.ensures c.nodes_derive.ensures (inside c) (least c) d at closed low) h was
