-- What holds of each upload, or of each rule, of a derivation follows from what is stronger. A contract can't range
-- over all such facts, so these laws stand here, and the laws for lists of uploads are contracts.
use Rattle.std.specs.Prelude.{◌≡◌, ℕ}
use Rattle.lj_base.specs.Cells.{Triple}
use Rattle.lj_base.specs.Frames.{Top}
use Rattle.lj_cover.specs.Rules.{Rule, Upload, One, Runs, All, Leaf, Derived, Derived2, Drop, Add, Grow, Lower, Product}
use Rattle.lj_cover.specs.Rules.{Induced, ForUpload}
use Rattle.lj_cover.specs.Derivations.{Tree, Trees, node, none, more, EachRule, EachRules, IsDerivation, IsIn}
use Rattle.lj_cover.specs.Derivations.{root_cell, tree_cost}

-- P holds of each upload of the tree
abbrev pub EachUpload : (Upload → Type 0) → Tree → Type 0
EachUpload P d = EachRule (ForUpload P) d

-- some derivation of the cell, in the frame and with uploads of which P holds, has this cost
pub record DerivableBy (frame : Top) (P : Upload → Type 0) (c : Triple) (n : ℕ) : Type 0 where
  pub tree : Tree
  pub derivation : IsDerivation tree
  pub inside : IsIn frame tree
  pub uploads : EachUpload P tree
  pub cell_is : root_cell tree ≡ c
  pub cost_is : tree_cost tree ≡ n

pub ForUpload-weaker : (P Q : Upload → Type 0) → ((u : Upload) → P u → Q u) → (r : Rule) → ForUpload P r → ForUpload Q r
ForUpload-weaker P Q step (Leaf u) h = step u h
ForUpload-weaker P Q step (Derived u x) h = step u h
ForUpload-weaker P Q step (Derived2 u x y) h = step u h
ForUpload-weaker P Q step (Induced u w k) h = step u h
ForUpload-weaker P Q step (One c) h = tt
ForUpload-weaker P Q step (Runs c) h = tt
ForUpload-weaker P Q step (All c) h = tt
ForUpload-weaker P Q step (Drop c) h = tt
ForUpload-weaker P Q step (Add c) h = tt
ForUpload-weaker P Q step (Grow c) h = tt
ForUpload-weaker P Q step (Lower c) h = tt
ForUpload-weaker P Q step (Product c v1 parts) h = tt

mutual
  pub EachRule-weaker : (P Q : Rule → Type 0) → ((r : Rule) → P r → Q r) → (d : Tree) → EachRule P d → EachRule Q d
  EachRule-weaker P Q step (node r ds) h = (step r h.0, EachRules-weaker P Q step ds h.1)

  pub EachRules-weaker : (P Q : Rule → Type 0) → ((r : Rule) → P r → Q r) → (ds : Trees) → EachRules P ds
      → EachRules Q ds
  EachRules-weaker P Q step none h = tt
  EachRules-weaker P Q step (more d ds) h = (EachRule-weaker P Q step d h.0, EachRules-weaker P Q step ds h.1)

-- a tree with uploads of which P holds is one with uploads of which Q holds, where Q follows from P
pub EachUpload-weaker : (P Q : Upload → Type 0) → ((u : Upload) → P u → Q u) → (d : Tree) → EachUpload P d
    → EachUpload Q d
EachUpload-weaker P Q step d h = EachRule-weaker (ForUpload P) (ForUpload Q) (ForUpload-weaker P Q step) d h

-- and so is what is derivable
pub DerivableBy-weaker : (frame : Top) (P Q : Upload → Type 0) (c : Triple) (n : ℕ) → ((u : Upload) → P u → Q u)
    → DerivableBy frame P c n → DerivableBy frame Q c n
DerivableBy-weaker frame P Q c n step h = record {
  tree = h.tree;
  derivation = h.derivation;
  inside = h.inside;
  uploads = EachUpload-weaker P Q step h.tree h.uploads;
  cell_is = h.cell_is;
  cost_is = h.cost_is;
}
