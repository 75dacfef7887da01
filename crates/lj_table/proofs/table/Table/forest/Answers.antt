use Rattle.std.proofs.Common.{◌≡◌, ◌<◌, ◌↔◌, ℕ, List, Some, arith, get_or, length, subst, sym}
use Rattle.std.proofs.lemmas.Option.{slice_get-get_or}
use Rattle.std.specs.List.{AllByRecursion}
use Rattle.std.specs.Prelude.{slice_get}
use Rattle.std.specs.Result.{IfOk}
use Rattle.lj_base.proofs.Lists.{AllByRecursion-from_places}
use Rattle.lj_base.specs.Cells.{IsCell, Triple}
use Rattle.lj_base.specs.Frames.{InFrame, Top, cells_of, index_of, size_of}
use Rattle.lj_deriv.specs.Forests.{IsForestOf}
use Rattle.lj_table.specs.Tables.{Contents, IsTable, contents_of}
use Rattle.lj_table.proofs.table.Table.forest.Goals as goal

-- the node of each cell is there, and each place is a cell's
nodes_there : (t : Contents) (cells : List Triple) → IsTable t → length cells ≡ size_of t.arena.frame
    → ((i : ℕ) (c : Triple)
    → ((slice_get cells i ≡ Some c) ↔ (InFrame t.arena.frame c × (index_of t.arena.frame c ≡ i))))
    → AllByRecursion (λ i. i < length t.arena.rules) t.nodes
nodes_there t cells h count places =
    AllByRecursion-from_places (λ i. i < length t.arena.rules) 0 t.nodes
    (λ k inside.
    let c = get_or cells k (record { v = 0; k = 0; t = 0 }) in
    let at = (places k c).0 (slice_get-get_or cells k (record { v = 0; k = 0; t = 0 })
    (omega (arith, inside, h.lists.nodes, count))) in
    subst (λ n. get_or t.nodes n 0 < length t.arena.rules) at.1 (h.nodes c at.0).there)

pub forest-requires : goal.forest-requires
forest-requires c =
    let t = contents_of c.self.inside.store in
    let cell : IsCell t.arena.frame.top = subst (λ (f : Top). IsCell f.top) c.frame-frame.ensures c.top_law.ensures in
    subst (AllByRecursion (λ i. i < length t.arena.rules)) (sym c.deref.ensures.value)
    (nodes_there t (cells_of t.arena.frame) c.self.invariant.table (c.cells_law.ensures.count t.arena.frame)
    (λ i d. c.cells_law.ensures.places t.arena.frame i d cell))

pub returns : goal.returns
returns c =
    subst (λ (x : Contents). IfOk c.forest.result (IsForestOf x.arena x.nodes)) c.self.view_is
    (subst (λ ns. IfOk c.forest.result (IsForestOf c.self.inside.store.arena ns)) c.deref.ensures.value
    c.forest.ensures)
