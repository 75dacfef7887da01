-- States of a table of bounds: the uploads, a number for each cell, and which cells are still to be looked at.
use Rattle.std.specs.Prelude.{◌≡◌, ℕ, ◌≤◌, Bool, false, List, []}
use Rattle.std.specs.List.{Contains}
use Rattle.lj_base.specs.Cells.{Triple}
use Rattle.lj_base.specs.Colex.{choose}
use Rattle.lj_base.specs.Frames.{InFrame, Top}
use Rattle.lj_cover.specs.Derivations.{DerivableIn}
use Rattle.lj_cover.specs.Instances.{AreUploads, IsInstance, IsStep, price}
use Rattle.lj_cover.specs.Rules.{Rule, Upload, Condition, ForUpload, rule_cell, rule_cost}

pub record State : Type 0 where
  pub frame : Top
  pub uploads : List Upload
  pub bounds : Triple → ℕ
  -- whether the cell is open: an instance at it may be cheaper than its bound
  pub pending : Triple → Bool

-- one use of a rule without children, at a cell of the frame
pub record IsBaseUse (frame : Top) (uploads : List Upload) (r : Rule) : Type 0 where
  pub base : IsStep r → ⊥
  pub inside : InFrame frame (rule_cell r)
  pub condition : Condition r
  pub upload_from : ForUpload (Contains uploads) r

pub record Good (s : State) : Type 0 where
  -- the uploads cover, and their cells are in the frame
  pub uploads : AreUploads s.frame s.uploads
  -- each bound is the cost of a derivation in the frame from the uploads
  pub derivable : (c : Triple) → InFrame s.frame c → DerivableIn s.frame s.uploads c (s.bounds c)
  -- no rule without children is cheaper
  pub bases : (r : Rule) → IsBaseUse s.frame s.uploads r → s.bounds (rule_cell r) ≤ rule_cost r []
  -- no instance at a cell that is not open is cheaper
  pub closed : (c : Triple) (r : Rule) → InFrame s.frame c → s.pending c ≡ false
      → IsInstance s.frame s.uploads c r → s.bounds c ≤ price s.bounds r
  -- a bound is at most the number of sets
  pub small : (c : Triple) → InFrame s.frame c → s.bounds c ≤ choose c.v c.t
