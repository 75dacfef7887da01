-- Publications after which cells that were closed stay closed.
use Rattle.std.specs.Prelude.{◌≡◌, ◌⊎◌, ℕ, Bool, false, Option}
use Rattle.lj_base.specs.Cells.{Triple}
use Rattle.lj_base.specs.Frames.{InFrame}
use Rattle.lj_relax.specs.States.{State}
use Rattle.lj_relax.specs.Steps.{Publishes, Snapshot}
use Rattle.lj_table.specs.Tables.{Contents, is_taken, state_of}

-- n is the state m, but that cells which are closed in s may be closed in it too
pub record StayClosed (s m n : State) : Type 0 where
  pub frame : n.frame ≡ m.frame
  pub uploads : n.uploads ≡ m.uploads
  pub bounds : (c : Triple) → InFrame m.frame c → n.bounds c ≡ m.bounds c
  pub pending : (c : Triple) → InFrame m.frame c
      → (n.pending c ≡ m.pending c) ⊎ ((s.pending c ≡ false) × (n.pending c ≡ false))

-- from s to n by a publication; but cells that were closed may stay closed: where n is good, nothing is cheaper there
pub record PublishesKeeping (s : State) (a : Snapshot) (best : Option ℕ) (lowered agreed : Bool) (n : State)
    : Type 0 where
  pub published : State
  pub step : Publishes s a best lowered agreed published
  pub kept : StayClosed s published n

-- the cell is open or not, and taken or not, as it was
pub record IsAsBefore (t n : Contents) (c : Triple) : Type 0 where
  pub pending : (state_of n).pending c ≡ (state_of t).pending c
  pub taken : is_taken n c ≡ is_taken t c

-- the cell is not open, and so nobody has taken it
pub record IsShut (n : Contents) (c : Triple) : Type 0 where
  pub pending : (state_of n).pending c ≡ false
  pub untaken : is_taken n c ≡ false

-- cells with P may have been closed, and all else is as it was
pub record OnlyShuts (P : Triple → Type 0) (t n : Contents) : Type 0 where
  pub arena : n.arena ≡ t.arena
  pub bounds : n.bounds ≡ t.bounds
  pub nodes : n.nodes ≡ t.nodes
  pub marks : (c : Triple) → InFrame t.arena.frame c → IsAsBefore t n c ⊎ (P c × IsShut n c)
