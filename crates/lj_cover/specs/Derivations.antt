-- Derivations: finite trees of rules. What they cost, the blocks that they give, and the least cost for a cell.
use Rattle.std.specs.Prelude.{◌≡◌, ℕ, ◌≤◌, List, [], ◌∷◌}
use Rattle.std.specs.List.{Contains}
use Rattle.lj_base.specs.Cells.{IsCell, Triple}
use Rattle.lj_base.specs.Frames.{InFrame, Top}
use Rattle.lj_cover.specs.Rules.{Rule, Upload, Condition, ForUpload, IsCovering, rule_cell, rule_children, rule_blocks}
use Rattle.lj_cover.specs.Rules.{rule_cost}

mutual
  -- a rule over the trees of its children
  pub data Tree : Type 0 where
    node : Rule → Trees → Tree

  pub data Trees : Type 0 where
    none : Trees
    more : Tree → Trees → Trees

-- the cell of the tree's rule
abbrev pub root_cell : Tree → Triple
root_cell (node r ds) = rule_cell r

abbrev pub root_cells : Trees → List Triple
root_cells none = []
root_cells (more d ds) = root_cell d ∷ root_cells ds

-- the rule's cell is within the limits, its condition holds, and its upload covers
pub record IsSound (r : Rule) : Type 0 where
  pub in_limits : IsCell (rule_cell r)
  pub condition : Condition r
  pub upload_covers : ForUpload IsCovering r

abbrev mutual
  -- each rule in the tree is sound, and its children's trees are of the cells of its children
  pub IsDerivation : Tree → Type 0
  IsDerivation (node r ds) = IsSound r × (root_cells ds ≡ rule_children r) × AreDerivations ds

  pub AreDerivations : Trees → Type 0
  AreDerivations none = Unit {0}
  AreDerivations (more d ds) = IsDerivation d × AreDerivations ds

abbrev mutual
  -- P holds of each rule in the tree
  pub EachRule : (Rule → Type 0) → Tree → Type 0
  EachRule P (node r ds) = P r × EachRules P ds

  pub EachRules : (Rule → Type 0) → Trees → Type 0
  EachRules P none = Unit {0}
  EachRules P (more d ds) = EachRule P d × EachRules P ds

abbrev mutual
  -- the cost of a derivation: its rule's, from the costs of its children
  pub tree_cost : Tree → ℕ
  tree_cost (node r ds) = rule_cost r (tree_costs ds)

  pub tree_costs : Trees → List ℕ
  tree_costs none = []
  tree_costs (more d ds) = tree_cost d ∷ tree_costs ds

abbrev mutual
  -- the blocks of a derivation: its rule's, from the blocks of its children
  pub expand : Tree → List (List ℕ)
  expand (node r ds) = rule_blocks r (expands ds)

  pub expands : Trees → List (List (List ℕ))
  expands none = []
  expands (more d ds) = expand d ∷ expands ds

-- every cell of the tree is in the frame
abbrev pub IsIn : Top → Tree → Type 0
IsIn frame d = EachRule (λ r. InFrame frame (rule_cell r)) d

-- every upload of the tree is one of the list
abbrev pub IsFrom : List Upload → Tree → Type 0
IsFrom uploads d = EachRule (ForUpload (Contains uploads)) d

-- some derivation of the cell has this cost
pub record Derivable (c : Triple) (n : ℕ) : Type 0 where
  pub tree : Tree
  pub derivation : IsDerivation tree
  pub cell_is : root_cell tree ≡ c
  pub cost_is : tree_cost tree ≡ n

-- some derivation of the cell, in the frame and from these uploads, has this cost
pub record DerivableIn (frame : Top) (uploads : List Upload) (c : Triple) (n : ℕ) : Type 0 where
  pub tree : Tree
  pub derivation : IsDerivation tree
  pub inside : IsIn frame tree
  pub from : IsFrom uploads tree
  pub cell_is : root_cell tree ≡ c
  pub cost_is : tree_cost tree ≡ n

-- no derivation of the cell, in the frame and from these uploads, costs less, and one costs this
pub record IsLeast (frame : Top) (uploads : List Upload) (c : Triple) (n : ℕ) : Type 0 where
  pub derivable : DerivableIn frame uploads c n
  pub least : (d : Tree) → IsDerivation d → IsIn frame d → IsFrom uploads d → root_cell d ≡ c → n ≤ tree_cost d
