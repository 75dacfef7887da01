-- Positions in a derivation that goes through the blocks of an upload: how many blocks the first ones of these give.
use Rattle.std.specs.Prelude.{◌≡◌, ℕ, ◌*◌, ◌+◌, ◌<◌, ◌≤◌, List, [], length, slice_index, take}
use Rattle.std.specs.List.{sum_by}
use Rattle.std.proofs.Math.ListN.{get_or}
use Rattle.lj_cover.specs.Derivations.{Tree, node, tree_costs}
use Rattle.lj_cover.specs.Sources.{share, source}
use Rattle.lj_deriv.specs.Nodes.{Steps, step_tree}

-- the blocks that the last rule of the derivation goes through, none where it goes through no upload
abbrev pub tree_source : Tree → List (List ℕ)
tree_source (node r ds) = source r

-- how many blocks one of them gives
abbrev pub tree_share : Tree → List ℕ → ℕ
tree_share (node r ds) b = share r (tree_costs ds) b

-- the block at a place of the source
abbrev pub source_at : Tree → ℕ → List ℕ
source_at d place = get_or (tree_source d) place []

-- how many blocks the first n blocks of the source give
abbrev pub before : Tree → ℕ → ℕ
before d n = sum_by (tree_share d) (take n (tree_source d))

-- n counts are appended: how many blocks the first 0, 64, 128, .. blocks of the source give
pub record AreAppended (d : Tree) (old new : List ℕ) (n : ℕ) : Type 0 where
  pub len : length new ≡ length old + n
  pub kept : (i : ℕ) → i < length old → slice_index new i ≡ slice_index old i
  pub exact : (j : ℕ) → j < n → slice_index new (length old + j) ≡ before d (64 * j)

-- the running counts of the plan's first n nodes: those of a node begin at its place in the list of starts, and there
-- is one for each 64 blocks of the node's source
pub record AreCounted (p : Steps) (n : ℕ) (starts counts : List ℕ) : Type 0 where
  pub len : length starts ≡ n
  pub exact : (i : ℕ) → i < n → (j : ℕ) → 64 * j ≤ length (tree_source (step_tree p i))
      → (slice_index starts i + j < length counts)
      × (slice_index counts (slice_index starts i + j) ≡ before (step_tree p i) (64 * j))
