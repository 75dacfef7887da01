-- The rule of a node's line as an arena stores it: uploads by place, points and nodes from 0.
use Rattle.std.specs.Prelude.{◌≡◌, ℕ, suc, ◌≤◌, List, length, map, slice_index, take}
use Rattle.std.specs.List.{AllByRecursion, AllZip}
use Rattle.lj_base.specs.Cells.{Triple}
use Rattle.lj_cover.specs.Rules.{Upload}
use Rattle.lj_cover.specs.Derivations.{IsSound}
use Rattle.lj_cover.specs.Rules.{Rule as TreeRule}
use Rattle.lj_deriv.specs.Trees.{sizes_of, upload_at}
use Rattle.lj_deriv.specs.declared.rules.Part.{Part as StoredPart}
use Rattle.lj_deriv.specs.declared.rules.Rule.{Rule}
use Rattle.lj_deriv.specs.declared.rules.Rule.TheVariants.{One as OneNode, Runs as RunsNode, All as AllNode}
use Rattle.lj_deriv.specs.declared.rules.Rule.TheVariants.{Leaf as LeafNode, Derived as DerivedNode}
use Rattle.lj_deriv.specs.declared.rules.Rule.TheVariants.{Derived2 as Derived2Node, Drop as DropNode, Add as AddNode}
use Rattle.lj_deriv.specs.declared.rules.Rule.TheVariants.{Grow as GrowNode, Lower as LowerNode}
use Rattle.lj_deriv.specs.declared.rules.Rule.TheVariants.{Product as ProductNode, Induced as InducedNode}
use Rattle.lj_cert.specs.Places.{IsPlaceOf}
use Rattle.lj_cert.specs.Unfolding.{IsUse}
use Rattle.lj_cert.specs.declared.certs.CertChild.{CertChild}
use Rattle.lj_cert.specs.declared.certs.CertPart.{CertPart}
use Rattle.lj_cert.specs.declared.certs.CertRule.{CertRule}
use Rattle.lj_cert.specs.declared.certs.CertRule.TheVariants.{One, Runs, All, Leaf, Derived, Derived2, Drop, Add}
use Rattle.lj_cert.specs.declared.certs.CertRule.TheVariants.{Grow, Lower, Product, Induced}

-- the part with its nodes from 0
pub record IsStoredPart (p : CertPart) (q : StoredPart) : Type 0 where
  pub a : q.a ≡ p.a
  pub b : q.b ≡ p.b
  pub l : q.l ≡ p.l
  pub first : suc q.first ≡ p.first
  pub second : suc q.second ≡ p.second

-- the part's numbers of points are some that a cell may have, and its nodes are numbered from 1
pub record IsPlainPart (p : CertPart) : Type 0 where
  pub a : p.a ≤ 99
  pub b : p.b ≤ 99
  pub l : p.l ≤ 99
  pub first : 1 ≤ p.first
  pub second : 1 ≤ p.second

-- the child stands at the place of its size
abbrev pub IsStoredChild : List ℕ → CertChild → Type 0
IsStoredChild children c = suc (slice_index children c.l) ≡ c.child

-- the sizes of the cuts for which there is a child
abbrev pub child_sizes : List CertChild → List ℕ
child_sizes children = map (λ (p : CertChild). p.l) children

-- at the cell, the rule of a node's line is stored so
abbrev pub IsStored : List Upload → Triple → CertRule → Rule → Type 0
IsStored uploads c One r = r ≡ OneNode c
IsStored uploads c Runs r = r ≡ RunsNode c
IsStored uploads c All r = r ≡ AllNode c
IsStored uploads c (Leaf client o) r = (u : ℕ) × IsPlaceOf uploads client o u × (r ≡ LeafNode u)
IsStored uploads c (Derived client o x) r =
    (u : ℕ) × (y : ℕ) × IsPlaceOf uploads client o u × (x ≡ suc y) × (r ≡ DerivedNode u y)
IsStored uploads c (Derived2 client o x y) r =
    (u : ℕ) × (p : ℕ) × (q : ℕ) × IsPlaceOf uploads client o u × (x ≡ suc p) × (y ≡ suc q) × (r ≡ Derived2Node u p q)
IsStored uploads c (Drop i) r = (j : ℕ) × (i ≡ suc j) × (r ≡ DropNode j)
IsStored uploads c (Add i) r = (j : ℕ) × (i ≡ suc j) × (r ≡ AddNode j)
IsStored uploads c (Grow i) r = (j : ℕ) × (i ≡ suc j) × (r ≡ GrowNode j)
IsStored uploads c (Lower i) r = (j : ℕ) × (i ≡ suc j) × (r ≡ LowerNode j)
IsStored uploads c (Product v1 parts) r =
    (stored : List StoredPart) × (length parts ≤ 9) × AllZip IsStoredPart parts (take (length parts) stored)
    × (r ≡ ProductNode c v1 stored (length parts))
IsStored uploads c (Induced client o children) r =
    (u : ℕ) × (stored : List ℕ) × IsPlaceOf uploads client o u
    × (child_sizes children ≡ sizes_of (upload_at uploads u) c.k c.v)
    × AllByRecursion (IsStoredChild stored) children × (r ≡ InducedNode c u stored)

-- at the cell, the line's rule is no use that the table of rules allows
abbrev pub IsNoUse : List Upload → Triple → CertRule → Type 0
IsNoUse uploads c rule =
    (r : TreeRule) (is : List ℕ) → IsUse uploads c rule r is → IsSound r → AllByRecursion (λ i. 1 ≤ i) is → ⊥
