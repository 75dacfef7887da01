-- The parts of a publication on a table's lists.
use Rattle.std.specs.Prelude.{◌≡◌, ◌≢◌, ◌↔◌, ◌⊎◌, ℕ, ◌+◌, ◌≤◌, Bool, true, false, ◌||◌, IsTrue, List, [], length}
use Rattle.std.specs.Prelude.{slice_index_or, slice_set, Some}
use Rattle.std.specs.Bool.{OnFalse, OnTrue}
use Rattle.lj_base.specs.Bounds.{at_cell}
use Rattle.lj_base.specs.Cells.{Triple}
use Rattle.lj_base.specs.Frames.{InFrame, index_of}
use Rattle.lj_cover.specs.Instances.{Reads}
use Rattle.lj_deriv.specs.Nodes.{Nodes}
use Rattle.lj_relax.specs.Found.{Evaluation, found_cost}
use Rattle.lj_relax.specs.Steps.{Agrees, Lowers}
use Rattle.lj_relax.specs.Tickets.{TicketLists, snapshot_of}
use Rattle.lj_table.specs.Opening.{AreOpened}
use Rattle.lj_table.specs.Tables.{AreLatest, AreLists, AreNodes, Contents, Extends, Fits, HasGrown, KeepsNodes}
use Rattle.lj_table.specs.Tables.{mark_at, state_of}

-- the number has become the bound of the cell, by a new node of that cost
pub record IsStored (t : Contents) (c : Triple) (cost : ℕ) (n : Contents) : Type 0 where
  pub frame : n.arena.frame ≡ t.arena.frame
  pub uploads : n.arena.uploads ≡ t.arena.uploads
  pub spare : t.arena.spare ≤ n.arena.spare + 1
  pub fits : (q : TicketLists) → Fits t.arena q → Fits n.arena q
  pub bounds_len : length n.bounds ≡ length t.bounds
  pub nodes_len : length n.nodes ≡ length t.nodes
  pub are : AreNodes t.arena.frame t.arena t.nodes t.bounds → AreNodes t.arena.frame n.arena n.nodes n.bounds
  pub latest : AreLatest t.arena.frame t.arena (length t.arena.rules) t.nodes t.bounds
      → AreLatest t.arena.frame n.arena (length n.arena.rules) n.nodes n.bounds
  pub extends : Extends t.arena n.arena
  pub added : length n.arena.rules ≡ length t.arena.rules + 1
  pub list : n.bounds ≡ slice_set t.bounds (index_of t.arena.frame c) cost
  pub bound : at_cell t.arena.frame n.bounds c ≡ cost
  pub others : (d : Triple) → InFrame t.arena.frame d → d ≢ c
      → at_cell t.arena.frame n.bounds d ≡ at_cell t.arena.frame t.bounds d
  pub nodes_others : (d : Triple) → InFrame t.arena.frame d → d ≢ c
      → at_cell t.arena.frame n.nodes d ≡ at_cell t.arena.frame t.nodes d
  pub closed : n.closed ≡ t.closed
  pub busy : n.busy ≡ t.busy

-- a table after the first part of a publication
pub record IsLowered (t : Contents) (e : Evaluation) (lowered : Bool) (n : Contents) : Type 0 where
  pub lowers : IsTrue lowered ↔ Lowers (state_of t) (snapshot_of e.ticket) (found_cost e.found)
  pub frame : n.arena.frame ≡ t.arena.frame
  pub uploads : n.arena.uploads ≡ t.arena.uploads
  pub spare : t.arena.spare ≤ n.arena.spare + 1
  pub fits : (q : TicketLists) → Fits t.arena q → Fits n.arena q
  pub lists : AreLists n
  pub nodes : AreNodes t.arena.frame t.arena t.nodes t.bounds → AreNodes t.arena.frame n.arena n.nodes n.bounds
  pub latest : AreLatest t.arena.frame t.arena (length t.arena.rules) t.nodes t.bounds
      → AreLatest t.arena.frame n.arena (length n.arena.rules) n.nodes n.bounds
  pub extends : Extends t.arena n.arena
  pub grown : HasGrown t.arena t.bounds n.arena n.bounds
  pub bound : OnTrue lowered (found_cost e.found ≡ Some (at_cell t.arena.frame n.bounds e.ticket.cell))
  pub kept : OnFalse lowered (n.bounds ≡ t.bounds)
  pub others : (d : Triple) → InFrame t.arena.frame d → d ≢ e.ticket.cell
      → at_cell t.arena.frame n.bounds d ≡ at_cell t.arena.frame t.bounds d
  pub keeps : KeepsNodes t n
  pub moved : OnTrue lowered (n.bounds
      ≡ slice_set t.bounds (index_of t.arena.frame e.ticket.cell) (at_cell t.arena.frame n.bounds e.ticket.cell))
  pub still : OnFalse lowered (n.closed ≡ t.closed)
  pub own : mark_at t.arena.frame n.closed e.ticket.cell ≡ mark_at t.arena.frame t.closed e.ticket.cell
  pub opened : (d : Triple) → InFrame t.arena.frame d → d ≢ e.ticket.cell → (mark_at t.arena.frame n.closed d ≡ false)
      ↔ ((mark_at t.arena.frame t.closed d ≡ false) ⊎ (IsTrue lowered × Reads t.arena.frame d e.ticket.cell))
  pub marks : AreOpened t.closed t.busy n.closed n.busy

-- the marks after a publication at the place
pub record IsGivenBack (i : ℕ) (agreed : Bool) (closed busy closed2 busy2 : List Bool) : Type 0 where
  pub closed_len : length closed2 ≡ length closed
  pub busy_len : length busy2 ≡ length busy
  pub own : slice_index_or closed2 i false ≡ (agreed || slice_index_or closed i false)
  pub marked : agreed ≡ true → closed2 ≡ slice_set closed i true
  pub taken : slice_index_or busy2 i false ≡ slice_index_or closed2 i false
  pub others : (j : ℕ) → j ≢ i → slice_index_or closed2 j false ≡ slice_index_or closed j false
  pub busy_others : (j : ℕ) → j ≢ i → slice_index_or busy2 j false ≡ slice_index_or busy j false

-- the ticket agrees with the table's uploads and bounds
abbrev pub AgreesWith : Nodes → List ℕ → TicketLists → Type 0
AgreesWith a bounds q =
    Agrees (state_of (record { arena = a; bounds = bounds; nodes = []; closed = []; busy = [] })) (snapshot_of q)
