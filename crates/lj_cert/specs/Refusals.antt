-- Why a certificate is not good: the first part that fails, and in it the first upload, node or cell.
use Rattle.std.specs.Prelude.{◌≡◌, ℕ, suc, ◌<◌, ◌≤◌, List, [], ◌∷◌, ◌++◌, length}
use Rattle.std.specs.List.{AllByRecursion}
use Rattle.lj_base.specs.Bounds.{at_cell}
use Rattle.lj_base.specs.Cells.{Triple}
use Rattle.lj_base.specs.Frames.{InFrame, Top, index_of}
use Rattle.lj_cover.specs.Derivations.{Tree}
use Rattle.lj_cover.specs.Rules.{Upload}
use Rattle.lj_verify.specs.Refusals.{IsRefused}
use Rattle.lj_verify.specs.declared.refusals.Refusal.{Refusal}
use Rattle.lj_verify.specs.declared.refusals.Refusal.TheVariants.{Memory as NoMemory}
use Rattle.lj_cert.specs.Good.{IsAtRest, IsChecked, IsMet, IsRuleCost, bounds_of}
use Rattle.lj_cert.specs.Unfolding.{Unfold, UnfoldsTo}
use Rattle.lj_cert.specs.Values.{CertValue}
use Rattle.lj_cert.specs.declared.certs.CertBound.{CertBound}
use Rattle.lj_cert.specs.declared.certs.CertNode.{CertNode}
use Rattle.lj_cert.specs.declared.refusals.No.{No}
use Rattle.lj_cert.specs.declared.refusals.No.TheVariants.{Upload as NoUpload, Node as NoNode, Bound as NoBound, Low}
use Rattle.lj_cert.specs.declared.refusals.No.TheVariants.{Memory}

-- the first upload that a check refuses is at this place, and is refused so
pub record IsFirstRefused (uploads : List Upload) (place : ℕ) (refusal : Refusal) : Type 0 where
  pub before : List Upload
  pub upload : Upload
  pub later : List Upload
  pub uploads_are : uploads ≡ before ++ upload ∷ later
  pub earlier : AllByRecursion IsChecked before
  pub place_is : length before ≡ place
  pub refused : IsRefused upload.cell upload.blocks refusal
  pub by_blocks : refusal ≡ NoMemory → ⊥

-- the first node that unfolds to no derivation has this number
pub record IsFirstLoose (frame : Top) (uploads : List Upload) (nodes : List CertNode) (number : ℕ) : Type 0 where
  pub before : List CertNode
  pub node : CertNode
  pub later : List CertNode
  pub nodes_are : nodes ≡ before ++ node ∷ later
  pub trees : List Tree
  pub earlier : Unfold frame uploads [] before trees
  pub number_is : suc (length before) ≡ number
  pub loose : (d : Tree) → UnfoldsTo frame uploads trees node d → ⊥

-- the first bound that its node does not meet is that of this cell
pub record IsFirstUnmet (trees : List Tree) (bounds : List CertBound) (c : Triple) : Type 0 where
  pub before : List CertBound
  pub bound : CertBound
  pub later : List CertBound
  pub bounds_are : bounds ≡ before ++ bound ∷ later
  pub earlier : AllByRecursion (IsMet trees) before
  pub cell_is : bound.cell ≡ c
  pub unmet : IsMet trees bound → ⊥

-- c is the first cell at which a rule costs less than the bound, and the least such cost is n
pub record IsFirstLow (frame : Top) (uploads : List Upload) (bounds : Triple → ℕ) (c : Triple) (n : ℕ) : Type 0 where
  pub inside : InFrame frame c
  pub earlier : (e : Triple) → InFrame frame e → index_of frame e < index_of frame c
      → IsAtRest frame uploads bounds e
  pub cost_is : IsRuleCost frame uploads bounds c n
  pub lower : n < bounds c
  pub least : (m : ℕ) → IsRuleCost frame uploads bounds c m → n ≤ m

-- the nodes unfold to these derivations, and the uploads cover
pub record AreUnfolded (cert : CertValue) (trees : List Tree) : Type 0 where
  pub checked : AllByRecursion IsChecked cert.uploads
  pub unfolds : Unfold cert.frame cert.uploads [] cert.nodes trees

-- why the certificate is not good; running out of memory is no such reason
abbrev pub IsNo : CertValue → No → Type 0
IsNo cert (NoUpload place refusal) = IsFirstRefused cert.uploads place refusal
IsNo cert (NoNode number) =
    AllByRecursion IsChecked cert.uploads × IsFirstLoose cert.frame cert.uploads cert.nodes number
IsNo cert (NoBound c) = (trees : List Tree) × AreUnfolded cert trees × IsFirstUnmet trees cert.bounds c
IsNo cert (Low c n) =
    (trees : List Tree) × AreUnfolded cert trees × AllByRecursion (IsMet trees) cert.bounds
    × IsFirstLow cert.frame cert.uploads (at_cell cert.frame (bounds_of cert)) c n
IsNo cert Memory = ⊥
