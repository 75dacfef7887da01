-- The rules by which a covering is made from uploads and from coverings of other cells: each has its cell, the cells
-- of its children, a condition, a cost, and a list of blocks.
use Rattle.std.specs.Prelude.{◌≡◌, ℕ, ◌+◌, ◌-◌, ◌*◌, ◌<◌, ◌≤◌, ◌⊎◌, nat_lt, nat_le, if◌then◌else◌, min, List, [], ◌∷◌}
use Rattle.std.specs.Prelude.{map, length, slice_index}
use Rattle.std.specs.List.{AllByRecursion, flat_map, sum_by}
use Rattle.lj_base.specs.Blocks.{Covers}
use Rattle.lj_base.specs.Cells.{IsCell, Triple}
use Rattle.lj_base.specs.Colex.{choose, sets}
use Rattle.lj_cover.specs.Operations.{cut, degree_at, pair_degree_at}
use Rattle.lj_cover.specs.BlockLists.{one_block, ceil_div, run_blocks, derived_blocks, derived2_blocks, drop_blocks}
use Rattle.lj_cover.specs.BlockLists.{add_blocks, grow_blocks, product_blocks, cut_sizes, at_size, induced_blocks}

-- the cell of v points, blocks of k and sets of t
abbrev pub triple : ℕ → ℕ → ℕ → Triple
triple v k t = record { v = v; k = k; t = t }

-- a covering that a client has uploaded: the bytes of the client's name, its number among that client's, its cell and
-- its blocks
pub record Upload : Type 0 where
  pub client : List ℕ
  pub ordinal : ℕ
  pub cell : Triple
  pub blocks : List (List ℕ)

-- an upload that covers
pub record IsCovering (u : Upload) : Type 0 where
  pub in_limits : IsCell u.cell
  pub covers : Covers u.blocks u.cell

-- one part of a product. It serves the sets that have from a to b points in
-- the first factor, and its blocks have l points there
pub record Part : Type 0 where
  pub a : ℕ
  pub b : ℕ
  pub l : ℕ

pub data Rule : Type 0 where
  -- one block: no set has a point, or a block has every point
  One : Triple → Rule
  -- blocks of points in a row, for sets of one point
  Runs : Triple → Rule
  -- every block, for sets as large as blocks
  All : Triple → Rule
  -- an upload itself
  Leaf : Upload → Rule
  -- an upload's blocks through a point
  Derived : Upload → ℕ → Rule
  -- an upload's blocks through two points, the lesser first
  Derived2 : Upload → ℕ → ℕ → Rule
  -- from a covering of one point more
  Drop : Triple → Rule
  -- a last point is added to each block
  Add : Triple → Rule
  -- each block gets one point more
  Grow : Triple → Rule
  -- from a covering of larger sets
  Lower : Triple → Rule
  -- the points are split after the first v1, and each part joins a covering of the one side with one of the other
  Product : Triple → ℕ → List Part → Rule
  -- an upload's blocks are cut to the points below w and brought to k points
  Induced : Upload → ℕ → ℕ → Rule

-- the cell that the rule covers
abbrev pub rule_cell : Rule → Triple
rule_cell (One c) = c
rule_cell (Runs c) = c
rule_cell (All c) = c
rule_cell (Leaf u) = u.cell
rule_cell (Derived u x) = triple (u.cell.v - 1) (u.cell.k - 1) (u.cell.t - 1)
rule_cell (Derived2 u x y) = triple (u.cell.v - 2) (u.cell.k - 2) (u.cell.t - 2)
rule_cell (Drop c) = c
rule_cell (Add c) = c
rule_cell (Grow c) = c
rule_cell (Lower c) = c
rule_cell (Product c v1 parts) = c
rule_cell (Induced u w k) = triple w k u.cell.t

-- the two cells of a part of a product: its sets have at most b points on the first side, and at least a
abbrev pub part_cells : Triple → ℕ → Part → List Triple
part_cells c v1 p = triple v1 p.l p.b ∷ triple (c.v - v1) (c.k - p.l) (c.t - p.a) ∷ []

-- the cells of an induced rule's children: one for each size above k of the blocks' cuts to the points below w
abbrev pub cut_cells : ℕ → ℕ → ℕ → List (List ℕ) → List Triple
cut_cells t k w bs = map (λ l. triple l k t) (cut_sizes k w bs)

-- the cells of the rule's children
abbrev pub rule_children : Rule → List Triple
rule_children (Drop c) = triple (c.v + 1) c.k c.t ∷ []
rule_children (Add c) = triple (c.v - 1) (c.k - 1) c.t ∷ []
rule_children (Grow c) = triple c.v (c.k - 1) c.t ∷ []
rule_children (Lower c) = triple c.v c.k (c.t + 1) ∷ []
rule_children (Product c v1 parts) = flat_map (part_cells c v1) parts
rule_children (Induced u w k) = cut_cells u.cell.t k w u.blocks
rule_children _ = []

-- the parts follow each other and serve each number from lo to hi once
abbrev pub Chain : ℕ → ℕ → List Part → Type 0
Chain lo hi [] = lo ≡ hi + 1
Chain lo hi (p ∷ ps) = (p.a ≡ lo) × (p.a ≤ p.b) × Chain (p.b + 1) hi ps

-- both factors of the part are cells: max(b, k - v2) <= l <= min(v1, k - t + a), with v2 points on the second side
pub record PartFits (c : Triple) (v1 : ℕ) (p : Part) : Type 0 where
  pub first_sets : p.b ≤ p.l
  pub first_blocks : p.l ≤ v1
  pub second_sets : p.l + c.t ≤ c.k + p.a
  pub second_blocks : c.k ≤ p.l + (c.v - v1)

-- both sides have points, and the parts serve each number of points that a set can have on the first side
pub record Splits (c : Triple) (v1 : ℕ) (parts : List Part) : Type 0 where
  pub first_side : 1 ≤ v1
  pub second_side : v1 < c.v
  pub chain : Chain (c.t - (c.v - v1)) (min c.t v1) parts
  pub fits : AllByRecursion (PartFits c v1) parts

-- when the rule may be used
abbrev pub Condition : Rule → Type 0
Condition (One c) = (c.t ≡ 0) ⊎ (c.k ≡ c.v)
Condition (Runs c) = (c.t ≡ 1) × (1 ≤ c.k)
Condition (All c) = (c.t ≡ c.k) × (c.k ≤ 8)
Condition (Leaf u) = Unit {0}
Condition (Derived u x) = (1 ≤ u.cell.t) × (2 ≤ u.cell.v) × (x < u.cell.v)
Condition (Derived2 u x y) = (2 ≤ u.cell.t) × (3 ≤ u.cell.v) × (x < y) × (y < u.cell.v)
Condition (Drop c) = c.k ≤ c.v
Condition (Add c) = c.t < c.k
Condition (Grow c) = (c.t < c.k) × (c.k ≤ c.v)
Condition (Lower c) = c.t < c.k
Condition (Product c v1 parts) = Splits c v1 parts
Condition (Induced u w k) = (u.cell.t ≤ k) × (k ≤ w) × (w ≤ u.cell.v)

-- P holds of the upload that the rule names, where it names one
abbrev pub ForUpload : (Upload → Type 0) → Rule → Type 0
ForUpload P (Leaf u) = P u
ForUpload P (Derived u x) = P u
ForUpload P (Derived2 u x y) = P u
ForUpload P (Induced u w k) = P u
ForUpload P _ = Unit {0}

-- the numbers stand in pairs: the sum of their products
abbrev pub sum_of_products : List ℕ → ℕ
sum_of_products [] = 0
sum_of_products (d ∷ []) = 0
sum_of_products (d ∷ e ∷ ns) = d * e + sum_of_products ns

-- the blocks that a cut of l points costs: none below t, one up to k, and else as many as the child for its size
abbrev pub cut_cost : ℕ → ℕ → ℕ → ℕ → ℕ
cut_cost t k child l = if nat_lt l t then 0 else (if nat_le l k then 1 else child)

-- the rule's cost, from the costs of its children
abbrev pub rule_cost : Rule → List ℕ → ℕ
rule_cost (One c) ns = 1
rule_cost (Runs c) ns = ceil_div c.v c.k
rule_cost (All c) ns = choose c.v c.k
rule_cost (Leaf u) ns = length u.blocks
rule_cost (Derived u x) ns = degree_at u.blocks x
rule_cost (Derived2 u x y) ns = pair_degree_at u.blocks x y
rule_cost (Drop c) ns = slice_index ns 0
rule_cost (Add c) ns = slice_index ns 0
rule_cost (Grow c) ns = slice_index ns 0
rule_cost (Lower c) ns = slice_index ns 0
rule_cost (Product c v1 parts) ns = sum_of_products ns
rule_cost (Induced u w k) ns =
    sum_by (λ b. let l = length (cut w b) in cut_cost u.cell.t k (at_size (cut_sizes k w u.blocks) ns 0 l) l) u.blocks

-- the first list, where there is one
abbrev pub first_list : List (List (List ℕ)) → List (List ℕ)
first_list [] = []
first_list (bs ∷ lists) = bs

-- the rule's blocks, from the lists of its children
abbrev pub rule_blocks : Rule → List (List (List ℕ)) → List (List ℕ)
rule_blocks (One c) lists = one_block c.k
rule_blocks (Runs c) lists = run_blocks c.v c.k
rule_blocks (All c) lists = sets c.v c.k
rule_blocks (Leaf u) lists = u.blocks
rule_blocks (Derived u x) lists = derived_blocks x u.blocks
rule_blocks (Derived2 u x y) lists = derived2_blocks x y u.blocks
rule_blocks (Drop c) lists = drop_blocks c.v (first_list lists)
rule_blocks (Add c) lists = add_blocks (c.v - 1) (first_list lists)
rule_blocks (Grow c) lists = grow_blocks c.k (first_list lists)
rule_blocks (Lower c) lists = first_list lists
rule_blocks (Product c v1 parts) lists = product_blocks v1 lists
rule_blocks (Induced u w k) lists = induced_blocks u.cell.t k w lists u.blocks
