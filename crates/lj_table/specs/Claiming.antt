-- What a claim does.
use Rattle.std.specs.Prelude.{◌≡◌, ◌⊎◌, ◌<◌, Bool, true, false, List, slice_set}
use Rattle.lj_base.specs.Cells.{Triple}
use Rattle.lj_base.specs.Frames.{InFrame, Top, index_of}
use Rattle.lj_cover.specs.Instances.{rows_at}
use Rattle.lj_relax.specs.Steps.{Claims}
use Rattle.lj_relax.specs.Tickets.{TicketLists, snapshot_of}
use Rattle.lj_table.specs.Tables.{Contents, Fits, mark_at, state_of}
use Rattle.lj_table.specs.declared.outcomes.Claimed.{Claimed}
use Rattle.lj_table.specs.declared.outcomes.Claimed.TheVariants.{Cell, NoneOpen}

-- the cell is the first in index order that has no mark
pub record IsFirst (frame : Top) (marks : List Bool) (c : Triple) : Type 0 where
  pub inside : InFrame frame c
  pub unmarked : mark_at frame marks c ≡ false
  pub first : (d : Triple) → InFrame frame d → index_of frame d < index_of frame c → mark_at frame marks d ≡ true

abbrev pub AllMarked : Top → List Bool → Type 0
AllMarked frame marks = (c : Triple) → InFrame frame c → mark_at frame marks c ≡ true

-- the first open cell that is not taken, or, where all open cells are taken, the first open cell
abbrev pub IsNext : Top → List Bool → List Bool → Triple → Type 0
IsNext frame closed busy c = IsFirst frame busy c ⊎ (AllMarked frame busy × IsFirst frame closed c)

-- the next cell has been taken, and the ticket is one of the cell, with the table's lists and the rows of now
pub record IsClaim (t : Contents) (q : TicketLists) (c : Triple) (n : Contents) (r : TicketLists) : Type 0 where
  pub next : IsNext t.arena.frame t.closed t.busy c
  pub table : n ≡ record t { busy = slice_set t.busy (index_of t.arena.frame c) true }
  pub ticket : r ≡ record q { cell = c; bounds = t.bounds; nodes = t.nodes; rows = rows_at t.arena.uploads c }
  pub fits : Fits n.arena r
  pub step : Claims (state_of t) (snapshot_of r) (state_of n)

-- no cell is open, and nothing has changed
pub record IsNoClaim (t : Contents) (q : TicketLists) (n : Contents) (r : TicketLists) : Type 0 where
  pub closed : AllMarked t.arena.frame t.closed
  pub table : n ≡ t
  pub ticket : r ≡ q

-- from table and ticket before to table and ticket after
abbrev pub IsClaimed : Contents → TicketLists → Claimed → Contents → TicketLists → Type 0
IsClaimed t q (Cell c) n r = IsClaim t q c n r
IsClaimed t q NoneOpen n r = IsNoClaim t q n r
