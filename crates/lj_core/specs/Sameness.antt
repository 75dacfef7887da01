-- Machines that are the same on the frame.
use Rattle.std.specs.Prelude.{◌≡◌, ℕ, Option, Some, None, length, slice_index_or}
use Rattle.lj_base.specs.Cells.{Triple}
use Rattle.lj_base.specs.Frames.{InFrame, Top}
use Rattle.lj_relax.specs.Steps.{SameOnFrame, Snapshot}
use Rattle.lj_core.specs.Machines.{Machine}

-- the same cell and rows, and the same numbers on the frame
pub record SameSnapshot (frame : Top) (a b : Snapshot) : Type 0 where
  pub cell_is : b.cell ≡ a.cell
  pub rows_are : b.rows ≡ a.rows
  pub bounds_are : (c : Triple) → InFrame frame c → b.bounds c ≡ a.bounds c

-- no ticket, or the same one
abbrev pub SameHeld : Top → Option Snapshot → Option Snapshot → Type 0
SameHeld frame None None = Unit {0}
SameHeld frame None (Some b) = ⊥
SameHeld frame (Some a) None = ⊥
SameHeld frame (Some a) (Some b) = SameSnapshot frame a b

-- the same uploads, and on the frame the same bounds, open cells and taken cells; and the same tickets
pub record SameMachine (s n : Machine) : Type 0 where
  pub state_same : SameOnFrame s.state n.state
  pub taken_same : (c : Triple) → InFrame s.state.frame c → n.taken c ≡ s.taken c
  pub places : length n.held ≡ length s.held
  pub held_same : (w : ℕ)
      → SameHeld s.state.frame (slice_index_or s.held w None) (slice_index_or n.held w None)
