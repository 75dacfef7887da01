-- What follows for derivable numbers and for the least of them.
use Rattle.std.proofs.Common.{◌≡◌, ℕ, ◌≤◌, ◌↔◌, List, length, sym, ◌∙◌, subst, arith}
use Rattle.std.specs.List.{Contains}
use Rattle.lj_base.specs.Cells.{IsCell, Triple}
use Rattle.lj_base.specs.Frames.{Top}
use Rattle.lj_base.specs.Blocks.{Covers}
use Rattle.lj_cover.specs.Rules.{Rule, Upload, One, Runs, All, Leaf, Derived, Derived2, Drop, Add, Grow, Lower, Product}
use Rattle.lj_cover.specs.Rules.{Induced, ForUpload}
use Rattle.lj_cover.specs.Derivations.{Tree, Trees, node, none, more, root_cell, Derivable, EachRule, EachRules}
use Rattle.lj_cover.specs.Derivations.{IsDerivation, IsFrom, IsLeast, expand}
use Rattle.lj_cover.specs.Lower.{schonheim}
use Rattle.lj_cover.proofs.LowerNumber.{schonheim_bounds}
use Rattle.lj_cover.proofs.RulesCover.{expand_counts, expand_covers}

-- a derivable number is the size of a covering
pub derivable_covering : (c : Triple) (n : ℕ) → Derivable c n → (bs : List (List ℕ)) × Covers bs c × (length bs ≡ n)
derivable_covering c n h = (
  expand h.tree,
  subst (Covers (expand h.tree)) h.cell_is (expand_covers h.tree h.derivation),
  sym
      (expand_counts h.tree) ∙ h.cost_is,
)

pub root_in_limits : (d : Tree) → IsDerivation d → IsCell (root_cell d)
root_in_limits (node r ds) h = h.0.in_limits

pub schonheim_derivable : (c : Triple) (n : ℕ) → Derivable c n → schonheim c.v c.k c.t ≤ n
schonheim_derivable c n h =
    let found = derivable_covering c n h in
    let limits = subst IsCell h.cell_is (root_in_limits h.tree h.derivation) in
    subst (λ m. schonheim c.v c.k c.t ≤ m) found.2 (schonheim_bounds c.v c.k c.t found.0 limits.2 limits.3 found.1)

pub least_one : (frame : Top) (c : Triple) (uploads : List Upload) (m n : ℕ) → IsLeast frame uploads c m
    → IsLeast frame uploads c n → m ≡ n
least_one frame c uploads m n h k =
    let low = h.least k.derivable.tree k.derivable.derivation k.derivable.inside k.derivable.from k.derivable.cell_is in
    let high = k.least h.derivable.tree h.derivable.derivation h.derivable.inside h.derivable.from
    h.derivable.cell_is in
    omega (arith, h.derivable.cost_is, k.derivable.cost_is)

ForUpload-weaker : (P Q : Upload → Type 0) → ((u : Upload) → P u → Q u) → (r : Rule) → ForUpload P r → ForUpload Q r
ForUpload-weaker P Q step (One c) h = tt
ForUpload-weaker P Q step (Runs c) h = tt
ForUpload-weaker P Q step (All c) h = tt
ForUpload-weaker P Q step (Leaf u) h = step u h
ForUpload-weaker P Q step (Derived u x) h = step u h
ForUpload-weaker P Q step (Derived2 u x y) h = step u h
ForUpload-weaker P Q step (Drop c) h = tt
ForUpload-weaker P Q step (Add c) h = tt
ForUpload-weaker P Q step (Grow c) h = tt
ForUpload-weaker P Q step (Lower c) h = tt
ForUpload-weaker P Q step (Product c v1 parts) h = tt
ForUpload-weaker P Q step (Induced u w k) h = step u h

mutual
  EachRule-weaker : (P Q : Rule → Type 0) → ((r : Rule) → P r → Q r) → (d : Tree) → EachRule P d → EachRule Q d
  EachRule-weaker P Q step (node r ds) h = (step r h.0, EachRules-weaker P Q step ds h.1)

  EachRules-weaker : (P Q : Rule → Type 0) → ((r : Rule) → P r → Q r) → (ds : Trees) → EachRules P ds → EachRules Q ds
  EachRules-weaker P Q step none h = tt
  EachRules-weaker P Q step (more d ds) h = (EachRule-weaker P Q step d h.0, EachRules-weaker P Q step ds h.1)

-- from a list of uploads is from any list that has them all
from_more : (uploads others : List Upload) → ((u : Upload) → Contains uploads u → Contains others u) → (d : Tree)
    → IsFrom uploads d → IsFrom others d
from_more uploads others has d h =
    EachRule-weaker (ForUpload (Contains uploads)) (ForUpload (Contains others))
    (ForUpload-weaker (Contains uploads) (Contains others) has) d h

pub least_by_members : (frame : Top) (c : Triple) (uploads others : List Upload) (n : ℕ)
    → ((u : Upload) → Contains uploads u ↔ Contains others u)
    → IsLeast frame uploads c n → IsLeast frame others c n
least_by_members frame c uploads others n same h = record {
  derivable = record {
    tree = h.derivable.tree;
    derivation = h.derivable.derivation;
    inside = h.derivable.inside;
    from = from_more uploads others (λ u. (same u).0) h.derivable.tree h.derivable.from;
    cell_is = h.derivable.cell_is;
    cost_is = h.derivable.cost_is;
  };
  least = λ d derivation inside from cell_is. h.least d derivation inside
      (from_more others uploads (λ u. (same u).1) d from) cell_is;
}
