-- Tickets: what of a table a worker takes along.
use Rattle.std.specs.Prelude.{◌≡◌, ℕ, ◌≤◌, All, List, [], length, map, replicate}
use Rattle.lj_base.specs.Bounds.{AreBounds, at_cell}
use Rattle.lj_base.specs.Cells.{Triple}
use Rattle.lj_base.specs.Colex.{choose}
use Rattle.lj_base.specs.Frames.{InFrame, Top, cells_of, size_of}
use Rattle.lj_base.specs.declared.Row.{Row}
use Rattle.lj_induced.specs.Rows.{IsRowAt}
use Rattle.lj_relax.specs.Steps.{Snapshot}

-- a cell of the frame, with its rows and a list of numbers in index order
abbrev pub snapshot : Top → Triple → List ℕ → List Row → Snapshot
snapshot frame c numbers rows = record { cell = c; bounds = at_cell frame numbers; rows = rows }

-- a ticket as contracts see it: copies of a table's bounds and nodes, the rows of its cell, and for how many rows it
-- has room
pub record TicketLists : Type 0 where
  pub frame : Top
  pub cell : Triple
  pub bounds : List ℕ
  pub nodes : List ℕ
  pub rows : List Row
  pub room : ℕ

pub record IsTicket (t : TicketLists) : Type 0 where
  pub inside : InFrame t.frame t.cell
  pub bounds : AreBounds t.frame t.bounds
  pub nodes : length t.nodes ≡ size_of t.frame
  pub rows : All (IsRowAt t.frame t.cell) t.rows
  pub held : length t.rows ≤ t.room

abbrev pub snapshot_of : TicketLists → Snapshot
snapshot_of t = snapshot t.frame t.cell t.bounds t.rows

-- the number of sets of each cell, in index order
abbrev pub all_sets : Top → List ℕ
all_sets frame = map (λ (c : Triple). choose c.v c.t) (cells_of frame)

-- a ticket of the frame's first cell, whose bounds are the numbers of sets, without rows
abbrev pub first_ticket : Top → TicketLists
first_ticket frame = record {
  frame = frame;
  cell = record { v = 1; k = 0; t = 0 };
  bounds = all_sets frame;
  nodes = replicate (size_of frame) 0;
  rows = [];
  room = 0;
}
