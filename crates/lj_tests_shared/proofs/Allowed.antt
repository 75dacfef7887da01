-- Where every upload is allowed, what is derivable from some uploads is derivable from allowed ones.
use Rattle.std.proofs.Common.{ℕ, List}
use Rattle.std.specs.List.{Contains}
use Rattle.lj_base.specs.Cells.{Triple}
use Rattle.lj_base.specs.Frames.{Top}
use Rattle.lj_cover.specs.Derivations.{DerivableIn}
use Rattle.lj_cover.specs.Rules.{Upload}
use Rattle.lj_cover.specs.Uses.{DerivableBy, EachUpload-weaker}

pub derivable_by_every : (frame : Top) (uploads : List Upload) (c : Triple) (n : ℕ) → DerivableIn frame uploads c n
    → DerivableBy frame (λ u. Unit {0}) c n
derivable_by_every frame uploads c n d = record {
  tree = d.tree;
  derivation = d.derivation;
  inside = d.inside;
  uploads = EachUpload-weaker (Contains uploads) (λ u. Unit {0}) (λ u has. tt) d.tree d.from;
  cell_is = d.cell_is;
  cost_is = d.cost_is;
}
