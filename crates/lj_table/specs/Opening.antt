-- Cells that are opened.
use Rattle.std.specs.Prelude.{◌≡◌, ◌≢◌, ◌↔◌, ◌⊎◌, ℕ, ◌<◌, Bool, true, false, List, length, slice_index_or}
use Rattle.lj_base.specs.Cells.{Triple}
use Rattle.lj_base.specs.Frames.{InFrame, Top, index_of}

-- no place after this one is closed
abbrev pub IsOpenAfter : ℕ → List Bool → Type 0
IsOpenAfter last closed = (j : ℕ) → last < j → slice_index_or closed j false ≡ false

-- the place was closed, and is not any more
pub record IsOpenedAt (i : ℕ) (closed closed2 : List Bool) : Type 0 where
  pub before : slice_index_or closed i false ≡ true
  pub after : slice_index_or closed2 i false ≡ false

-- cells have been opened and none has been closed; one that was closed is not taken then
pub record AreOpened (closed busy closed2 busy2 : List Bool) : Type 0 where
  pub closed_len : length closed2 ≡ length closed
  pub busy_len : length busy2 ≡ length busy
  pub falls : (i : ℕ) → slice_index_or closed2 i false ≡ true → slice_index_or closed i false ≡ true
  pub untaken : (i : ℕ) → (slice_index_or busy2 i false ≡ false)
      ↔ ((slice_index_or busy i false ≡ false) ⊎ IsOpenedAt i closed closed2)

-- just the cells of the frame with P have been opened
pub record IsOpened (frame : Top) (P : Triple → Type 0) (closed busy closed2 busy2 : List Bool) : Type 0 where
  pub marks : AreOpened closed busy closed2 busy2
  pub opened : (d : Triple) → InFrame frame d → (slice_index_or closed2 (index_of frame d) false ≡ false)
      ↔ ((slice_index_or closed (index_of frame d) false ≡ false) ⊎ P d)

-- the place has been opened
pub record IsReopened (j : ℕ) (closed busy closed2 busy2 : List Bool) : Type 0 where
  pub closed_len : length closed2 ≡ length closed
  pub busy_len : length busy2 ≡ length busy
  pub here : slice_index_or closed2 j false ≡ false
  pub others : (i : ℕ) → i ≢ j → slice_index_or closed2 i false ≡ slice_index_or closed i false
  pub was : slice_index_or closed j false ≡ true → slice_index_or busy2 j false ≡ false
  pub kept : slice_index_or closed j false ≡ false → slice_index_or busy2 j false ≡ slice_index_or busy j false
  pub busy_others : (i : ℕ) → i ≢ j → slice_index_or busy2 i false ≡ slice_index_or busy i false
