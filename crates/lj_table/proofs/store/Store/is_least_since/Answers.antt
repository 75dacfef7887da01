use Rattle.std.proofs.Common.{◌≡◌, ◌≤◌, ◌∙◌, ℕ, List, ap, arith, drop, sym, subst, subst₂}
use Rattle.std.proofs.lemmas.Bool.{OnTrue_at, OnTrue_from}
use Rattle.std.specs.List.{All}
use Rattle.lj_base.specs.Bounds.{AreBounds, at_cell}
use Rattle.lj_base.specs.Frames.{Top}
use Rattle.lj_base.specs.declared.Row.{Row}
use Rattle.lj_cover.specs.Instances.{row_price, rows_at}
use Rattle.lj_table.specs.Settling.{NoneCheaper}
use Rattle.lj_table.specs.Tables.{contents_of, state_of}
use Rattle.lj_table.proofs.Rested.{none_cheaper}
use Rattle.lj_table.proofs.store.Store.is_least_since.Goals as goal

pub none_is_cheaper-requires-clause-bounds : goal.none_is_cheaper-requires-clause-bounds
none_is_cheaper-requires-clause-bounds c =
    let t = contents_of c.args.self.now in
    let bounds : AreBounds c.args.self.now.arena.frame c.args.self.now.bounds.items = record {
      count = c.requires.table.lists.bounds;
      some = c.bounds_are_positive.ensures (state_of t) c.requires.table.good;
      small = c.requires.table.good.small;
    } in
    subst₂ AreBounds (sym c.frame-frame.ensures) (sym c.deref.ensures.value) bounds

pub returns : goal.returns
returns c =
    let f = c.args.self.now.arena.frame in
    let us = c.args.self.now.arena.uploads in
    let rows : c.deref-2.result.now ≡ rows_at (drop c.args.rest.uploads c.args.self.now.arena.uploads) c.args.c =
    c.deref-2.ensures.value ∙ c.in_ok-present_rows.ensures.rows
    ∙ ap (λ xs. rows_at xs c.args.c)
    (c.from_place-later.ensures ∙ ap (drop c.args.rest.uploads) c.uploads.ensures.uploads) in
    OnTrue_from c.none_is_cheaper.result (NoneCheaper f c.args.self.now.bounds.items us c.args.c)
    (λ yes. none_cheaper c.rows_are_of_uploads.ensures.rows c.price_by_row.ensures.by_row (contents_of c.args.self.now)
    c.requires.table c.args.rest c.requires.rest (omega (arith, c.if-len-rest.false, c.len.ensures.len)) c.args.c
    c.requires.inside
    (subst₂ (λ (g : Top) (bs : List ℕ). All (λ (row : Row). at_cell g bs c.args.c
    ≤ row_price (at_cell g bs) c.args.c row.counts) (rows_at (drop c.args.rest.uploads us) c.args.c))
    c.frame-frame.ensures c.deref.ensures.value
    (subst (All (λ (row : Row). at_cell c.frame-frame.result c.deref.result.now c.args.c
    ≤ row_price (at_cell c.frame-frame.result c.deref.result.now) c.args.c row.counts)) rows
    (OnTrue_at yes c.none_is_cheaper.ensures))))
