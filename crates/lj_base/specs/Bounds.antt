-- A number for each cell of a frame, as a list in the order of index.
use Rattle.std.specs.Prelude.{◌≡◌, ℕ, ◌≤◌, List, length, slice_index}
use Rattle.lj_base.specs.Cells.{Triple}
use Rattle.lj_base.specs.Colex.{choose}
use Rattle.lj_base.specs.Frames.{InFrame, Top, index_of, size_of}

-- the number of a cell in a list that has one for each cell of the frame
abbrev pub at_cell : Top → List ℕ → Triple → ℕ
at_cell frame numbers c = slice_index numbers (index_of frame c)

-- the numbers are bounds of the frame's cells: one for each, from 1 to the number of sets that have to be covered
pub record AreBounds (frame : Top) (numbers : List ℕ) : Type 0 where
  pub count : length numbers ≡ size_of frame
  pub some : (c : Triple) → InFrame frame c → 1 ≤ at_cell frame numbers c
  pub small : (c : Triple) → InFrame frame c → at_cell frame numbers c ≤ choose c.v c.t
