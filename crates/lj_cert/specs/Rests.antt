-- Bounds that are the least costs of derivations.
use Rattle.std.specs.Prelude.{◌≡◌, ℕ, List, length}
use Rattle.lj_base.specs.Bounds.{at_cell}
use Rattle.lj_base.specs.Cells.{Triple}
use Rattle.lj_base.specs.Frames.{InFrame, Top, size_of}
use Rattle.lj_cover.specs.Derivations.{IsLeast}
use Rattle.lj_cover.specs.Rules.{Upload}

-- a frame, uploads, and a number for each cell of the frame, in index order
pub record RestValue : Type 0 where
  pub frame : Top
  pub uploads : List Upload
  pub bounds : List ℕ

-- each number is the least cost of any derivation of its cell, in the frame and from the uploads
pub record AreLeast (r : RestValue) : Type 0 where
  pub count : length r.bounds ≡ size_of r.frame
  pub least : (c : Triple) → InFrame r.frame c → IsLeast r.frame r.uploads c (at_cell r.frame r.bounds c)
