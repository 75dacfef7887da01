-- What an arena holds of a certificate whose parts are tried in order.
use Rattle.std.specs.Prelude.{◌≡◌, ℕ, ◌+◌, ◌≤◌, List, [], ◌∷◌, ◌++◌}
use Rattle.std.specs.List.{AllByRecursion}
use Rattle.lj_cover.specs.Derivations.{Tree}
use Rattle.lj_cover.specs.Rules.{Upload}
use Rattle.lj_base.specs.Frames.{Top}
use Rattle.lj_deriv.specs.Nodes.{Nodes, trees_of}
use Rattle.lj_verify.specs.Refusals.{IsRefused}
use Rattle.lj_verify.specs.declared.refusals.Refusal.TheVariants.{Memory as NoMemory}
use Rattle.lj_cert.specs.Good.{IsChecked, IsMet, bounds_of}
use Rattle.lj_cert.specs.Refusals.{IsFirstLoose, IsFirstRefused, IsFirstUnmet}
use Rattle.lj_cert.specs.Unfolding.{Unfold, UnfoldsTo}
use Rattle.lj_cert.specs.Values.{CertValue}
use Rattle.lj_cert.specs.declared.certs.CertBound.{CertBound}
use Rattle.lj_cert.specs.declared.certs.CertNode.{CertNode}
use Rattle.lj_cert.specs.declared.refusals.No.{No}
use Rattle.lj_cert.specs.declared.refusals.No.TheVariants.{Upload as NoUpload, Node as NoNode, Bound as NoBound, Memory}

-- memory ran out, or a check refuses the upload at this place
abbrev pub IsUploadNo : ℕ → Upload → No → Type 0
IsUploadNo place u (NoUpload p refusal) = (p ≡ place) × IsRefused u.cell u.blocks refusal × (refusal ≡ NoMemory → ⊥)
IsUploadNo place u Memory = Unit {0}
IsUploadNo place u _ = ⊥

-- memory ran out, or one of the uploads is the first that a check refuses
abbrev pub IsUploadsNo : List Upload → No → Type 0
IsUploadsNo uploads (NoUpload place refusal) = IsFirstRefused uploads place refusal
IsUploadsNo uploads Memory = Unit {0}
IsUploadsNo uploads _ = ⊥

-- memory ran out, or one of the nodes is the first that unfolds to no derivation
abbrev pub IsNodesNo : Top → List Upload → List CertNode → No → Type 0
IsNodesNo frame uploads nodes (NoNode number) = IsFirstLoose frame uploads nodes number
IsNodesNo frame uploads nodes Memory = Unit {0}
IsNodesNo frame uploads nodes _ = ⊥

-- memory ran out, or one of the bounds is the first that its node does not meet
abbrev pub IsBoundsNo : List Tree → List CertBound → No → Type 0
IsBoundsNo trees bounds (NoBound c) = IsFirstUnmet trees bounds c
IsBoundsNo trees bounds Memory = Unit {0}
IsBoundsNo trees bounds _ = ⊥

-- from a to b by the node's line: it unfolds to a derivation, which is that of the one node more
pub record Holds (a b : Nodes) (n : CertNode) : Type 0 where
  pub frame : b.frame ≡ a.frame
  pub uploads : b.uploads ≡ a.uploads
  pub spare : b.spare + 1 ≡ a.spare
  pub tree : Tree
  pub unfolds : UnfoldsTo a.frame a.uploads (trees_of a.uploads a.rules) n tree
  pub trees : trees_of b.uploads b.rules ≡ trees_of a.uploads a.rules ++ tree ∷ []

-- the arena holds the certificate's uploads, which cover, and its nodes, which are derivations; and the numbers are its
-- bounds, each at least 1 and met by its node
pub record IsHeld (cert : CertValue) (a : Nodes) (ns : List ℕ) : Type 0 where
  pub frame : a.frame ≡ cert.frame
  pub uploads : a.uploads ≡ cert.uploads
  pub checked : AllByRecursion IsChecked cert.uploads
  pub unfolds : Unfold cert.frame cert.uploads [] cert.nodes (trees_of a.uploads a.rules)
  pub met : AllByRecursion (IsMet (trees_of a.uploads a.rules)) cert.bounds
  pub numbers : ns ≡ bounds_of cert
  pub some : AllByRecursion (λ n. 1 ≤ n) ns
