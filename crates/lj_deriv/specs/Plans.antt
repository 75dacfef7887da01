-- Plans: the nodes and uploads that one derivation needs, and no others.
use Rattle.std.specs.Prelude.{◌≡◌, ℕ, suc, ◌-◌, ◌<◌, List, length, map, slice_index}
use Rattle.std.specs.List.{Contains}
use Rattle.lj_base.specs.Blocks.{Ascends}
use Rattle.lj_deriv.specs.Nodes.{Nodes, Steps, node_tree, step_tree}
use Rattle.lj_deriv.specs.Trees.{children_of, rule_at, upload_at, uploads_of}

-- the plan's nodes are copies of nodes of the arena, in
-- the order of their numbers, the last of the root, each with its own
-- derivation; its uploads are uploads of the arena, each once, in the order of their numbers
pub record IsPlanOf (a : Nodes) (root : ℕ) (p : Steps) : Type 0 where
  pub numbers : List ℕ
  pub ascends : Ascends 0 (suc root) numbers
  pub as_many : length numbers ≡ length p.rules
  pub last : slice_index numbers (length p.rules - 1) ≡ root
  pub trees : (i : ℕ) → i < length p.rules → step_tree p i ≡ node_tree a (slice_index numbers i)
  pub children : (i : ℕ) → i < length p.rules
      → map (λ j. slice_index numbers j) (children_of p.uploads (rule_at p.rules i))
      ≡ children_of a.uploads (rule_at a.rules (slice_index numbers i))
  pub named : List ℕ
  pub named_ascend : Ascends 0 (length a.uploads) named
  pub uploads : p.uploads ≡ map (λ u. upload_at a.uploads u) named
  pub names : (i : ℕ) → i < length p.rules → map (λ u. slice_index named u) (uploads_of (rule_at p.rules i))
      ≡ uploads_of (rule_at a.rules (slice_index numbers i))

-- a later node of which the node is a child
pub record HasParent (p : Steps) (i : ℕ) : Type 0 where
  pub parent : ℕ
  pub later : i < parent
  pub there : parent < length p.rules
  pub child : Contains (children_of p.uploads (rule_at p.rules parent)) i

-- each node but the last is a child of a later one, so that each is reached from the last
abbrev pub AreReached : Steps → Type 0
AreReached p = (i : ℕ) → suc i < length p.rules → HasParent p i

-- a node that names the upload
pub record IsNamed (p : Steps) (u : ℕ) : Type 0 where
  pub node : ℕ
  pub there : node < length p.rules
  pub names : Contains (uploads_of (rule_at p.rules node)) u

-- there is a root, each other node is reached from it, and each upload is named by a node
pub record IsWhole (p : Steps) : Type 0 where
  pub some : 0 < length p.rules
  pub reached : AreReached p
  pub named : (u : ℕ) → u < length p.uploads → IsNamed p u
