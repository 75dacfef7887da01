-- Forests: the nodes and uploads that some roots need, and no others.
use Rattle.std.specs.Prelude.{◌≡◌, ℕ, ◌<◌, ◌⊎◌, List, length, map, slice_index}
use Rattle.std.specs.List.{AllByRecursion, Contains}
use Rattle.lj_base.specs.Blocks.{Ascends}
use Rattle.lj_base.specs.Frames.{Top}
use Rattle.lj_cover.specs.Derivations.{Tree}
use Rattle.lj_cover.specs.Rules.{Upload}
use Rattle.lj_deriv.specs.Nodes.{Nodes, Steps, node_tree, step_tree}
use Rattle.lj_deriv.specs.Plans.{HasParent, IsNamed}
use Rattle.lj_deriv.specs.Trees.{children_of, rule_at, upload_at, uploads_of}
use Rattle.lj_deriv.specs.declared.rules.Rule.{Rule}

-- a forest: its frame, its uploads, the rules of its nodes, and the numbers of its roots
pub record ForestValue : Type 0 where
  pub frame : Top
  pub uploads : List Upload
  pub rules : List Rule
  pub roots : List ℕ

-- the nodes and uploads of an arena, without its spare room, with these roots
abbrev pub forest_of : Nodes → List ℕ → ForestValue
forest_of a roots = record { frame = a.frame; uploads = a.uploads; rules = a.rules; roots = roots }

-- its nodes and uploads, as those of a plan
abbrev pub steps_in : ForestValue → Steps
steps_in f = record { uploads = f.uploads; rules = f.rules }

-- the derivation of a node
abbrev pub forest_tree : ForestValue → ℕ → Tree
forest_tree f i = step_tree (steps_in f) i

-- the roots are there, each other node is reached from one, and each upload is named by a node
pub record IsWhole (f : ForestValue) : Type 0 where
  pub there : AllByRecursion (λ i. i < length f.rules) f.roots
  pub reached : (i : ℕ) → i < length f.rules → Contains f.roots i ⊎ HasParent (steps_in f) i
  pub named : (u : ℕ) → u < length f.uploads → IsNamed (steps_in f) u

-- the forest's nodes are copies of nodes of the arena, in the order of their numbers, each with its own derivation, and
-- its roots those of these; its uploads are uploads of the arena, each once, in the order of their numbers
pub record IsForestOf (a : Nodes) (roots : List ℕ) (f : ForestValue) : Type 0 where
  pub frame : f.frame ≡ a.frame
  pub numbers : List ℕ
  pub ascends : Ascends 0 (length a.rules) numbers
  pub as_many : length numbers ≡ length f.rules
  pub roots_are : map (λ i. slice_index numbers i) f.roots ≡ roots
  pub trees : (i : ℕ) → i < length f.rules → forest_tree f i ≡ node_tree a (slice_index numbers i)
  pub children : (i : ℕ) → i < length f.rules
      → map (λ j. slice_index numbers j) (children_of f.uploads (rule_at f.rules i))
      ≡ children_of a.uploads (rule_at a.rules (slice_index numbers i))
  pub named : List ℕ
  pub named_ascend : Ascends 0 (length a.uploads) named
  pub uploads : f.uploads ≡ map (λ u. upload_at a.uploads u) named
  pub names : (i : ℕ) → i < length f.rules → map (λ u. slice_index named u) (uploads_of (rule_at f.rules i))
      ≡ uploads_of (rule_at a.rules (slice_index numbers i))
