-- Where the block at a position comes from, and the blocks from there on.
use Rattle.std.specs.Prelude.{◌≡◌, ℕ, ◌+◌, ◌*◌, ◌<◌, ◌≤◌, List, [], ◌∷◌, drop, get_or, length, slice_index, take}
use Rattle.std.specs.List.{AllByRecursion, Contains, flat_map}
use Rattle.lj_base.specs.Cells.{Triple}
use Rattle.lj_cover.specs.BlockLists.{blocks_of_cut, join_blocks, product_blocks}
use Rattle.lj_cover.specs.Derivations.{Tree, node, expand, expands, root_cell, tree_cost, tree_costs}
use Rattle.lj_cover.specs.Operations.{cut}
use Rattle.lj_cover.specs.Rules.{sum_of_products}
use Rattle.lj_cover.specs.Sources.{IsBlockwise}
use Rattle.lj_deriv.specs.declared.rules.Part.{Part as StoredPart}
use Rattle.lj_deriv.specs.Nodes.{Steps, step_tree}
use Rattle.lj_deriv.specs.Trees.{trees_at, trees_of}
use Rattle.lj_deriv.specs.Positions.{before, source_at, tree_share, tree_source}
use Rattle.lj_expand.specs.Expansions.{factors_of}

-- the derivation's last rule goes through the blocks of an upload
abbrev pub IsSourced : Tree → Type 0
IsSourced (node r ds) = IsBlockwise r

-- the last of the running counts that is at most i
pub record IsLastCount (d : Tree) (i count : ℕ) : Type 0 where
  pub inside : 64 * count ≤ length (tree_source d)
  pub upto : before d (64 * count) ≤ i
  pub last : 64 * (count + 1) ≤ length (tree_source d) → i < before d (64 * (count + 1))

-- the i-th block is the one at this offset of those that the block at this place of the source gives
pub record IsSpot (d : Tree) (i place offset : ℕ) : Type 0 where
  pub inside : place < length (tree_source d)
  pub sum : before d place + offset ≡ i
  pub within : offset < tree_share d (source_at d place)

-- n blocks, but not none, at the front of the new ones are those of a list from an offset on
pub record IsRun (list : List (List ℕ)) (offset : ℕ) (new : List (List ℕ)) (n : ℕ) : Type 0 where
  pub some : 1 ≤ n
  pub room : n ≤ length new
  pub inside : offset + n ≤ length list
  pub blocks : take n new ≡ take n (drop offset list)

-- the set with another first point
abbrev pub with_first : ℕ → List ℕ → List ℕ
with_first p [] = []
with_first p (x ∷ xs) = p ∷ xs

-- ---- products

-- the part of a product that stands at a place
abbrev pub part_at : List StoredPart → ℕ → StoredPart
part_at parts i = get_or parts i (record { a = 0; b = 0; l = 0; first = 0; second = 0 })

-- the blocks of one part of a product, and how many they are
abbrev pub part_blocks : Steps → ℕ → StoredPart → List (List ℕ)
part_blocks p v1 part = join_blocks v1 (expand (step_tree p part.first)) (expand (step_tree p part.second))

abbrev pub part_cost : Steps → StoredPart → ℕ
part_cost p part = tree_cost (step_tree p part.first) * tree_cost (step_tree p part.second)

-- the blocks of the parts, one part after another, and how many they are
abbrev pub blocks_of_parts : Steps → ℕ → List StoredPart → List (List ℕ)
blocks_of_parts p v1 parts = product_blocks v1 (expands (trees_at (trees_of p.uploads p.rules) (factors_of parts)))

abbrev pub cost_of_parts : Steps → List StoredPart → ℕ
cost_of_parts p parts = sum_of_products (tree_costs (trees_at (trees_of p.uploads p.rules) (factors_of parts)))

-- the i-th block is the one at this offset of the part at this place, and the later ones are those that come after it
-- in this part and in the parts after it
pub record IsPartSpot (p : Steps) (parts : List StoredPart) (i place offset : ℕ) : Type 0 where
  pub inside : place < length parts
  pub within : offset < part_cost p (part_at parts place)
  pub rest : (v1 : ℕ) → drop i (blocks_of_parts p v1 parts) ≡ drop offset (blocks_of_parts p v1 (drop place parts))

-- the points of the first factor lie below v1, those of the second have room after them, and a block of the one and one
-- of the other together have at most 25 points
pub record IsUnited (p : Steps) (v1 : ℕ) (part : StoredPart) : Type 0 where
  pub first : (root_cell (step_tree p part.first)).v ≡ v1
  pub second : v1 + (root_cell (step_tree p part.second)).v ≤ 99
  pub sizes : (root_cell (step_tree p part.first)).k + (root_cell (step_tree p part.second)).k ≤ 25

-- the i-th node has the blocks of these parts, whose factors stand before it
pub record IsProductNode (p : Steps) (i v1 : ℕ) (parts : List StoredPart) : Type 0 where
  pub factors : AllByRecursion (λ j. j < i) (factors_of parts)
  pub blocks : expand (step_tree p i) ≡ blocks_of_parts p v1 parts
  pub cost : tree_cost (step_tree p i) ≡ cost_of_parts p parts
  pub united : AllByRecursion (IsUnited p v1) parts

-- ---- induced nodes

-- the blocks for the cut of one block, where the child for the cuts of each size stands at that place
abbrev pub cut_list : Steps → Triple → List ℕ → List ℕ → List (List ℕ)
cut_list p c children b =
    let points = cut c.v b in
    blocks_of_cut c.t c.k (expand (step_tree p (slice_index children (length points)))) points

-- the child for cuts of l points stands before the i-th node, and its blocks are of l points
pub record IsCutChild (p : Steps) (i l child : ℕ) : Type 0 where
  pub earlier : child < i
  pub points : (root_cell (step_tree p child)).v ≡ l

-- the i-th node has the blocks for the cuts of these blocks, one cut after another
pub record IsInducedNode (p : Steps) (i : ℕ) (c : Triple) (children : List ℕ) (bs : List (List ℕ)) : Type 0 where
  pub blocks : expand (step_tree p i) ≡ flat_map (cut_list p c children) bs
  pub child : (b : List ℕ) → Contains bs b → c.k < length (cut c.v b)
      → IsCutChild p i (length (cut c.v b)) (slice_index children (length (cut c.v b)))
  pub counts : (n : ℕ) → length (flat_map (cut_list p c children) (take n bs)) ≡ before (step_tree p i) n
