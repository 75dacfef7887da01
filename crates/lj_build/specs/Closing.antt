-- The table that a run is closed with.
use Rattle.std.specs.Prelude.{◌≡◌, IsPermutation, List, length}
use Rattle.lj_base.specs.Cells.{Triple}
use Rattle.lj_base.specs.Frames.{InFrame, Top, size_of}
use Rattle.lj_cover.specs.Derivations.{IsLeast}
use Rattle.lj_cover.specs.Rules.{Upload}
use Rattle.lj_table.specs.Tables.{Contents, IsAtRest, state_of}

-- the table is of the frame and has just these uploads, each as often, in whatever order
pub record HasUploads (f : Top) (uploads : List Upload) (t : Contents) : Type 0 where
  pub frame : t.arena.frame ≡ f
  pub same : IsPermutation t.arena.uploads uploads

-- it is at rest besides, and the bound of each cell is the least from the uploads
pub record IsClosed (f : Top) (uploads : List Upload) (t : Contents) : Type 0 where
  pub has : HasUploads f uploads t
  pub count : length t.bounds ≡ size_of f
  pub rest : IsAtRest t
  pub least : (c : Triple) → InFrame f c → IsLeast f uploads c ((state_of t).bounds c)
