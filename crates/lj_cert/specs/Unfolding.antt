-- The derivations to which the nodes of a certificate unfold.
use Rattle.std.specs.Prelude.{◌≡◌, ℕ, ◌-◌, ◌<◌, ◌≤◌, List, [], ◌∷◌, ◌++◌, length, map}
use Rattle.std.specs.List.{AllByRecursion, Contains, flat_map}
use Rattle.lj_base.specs.Cells.{Triple}
use Rattle.lj_base.specs.Frames.{Top}
use Rattle.lj_base.specs.declared.limits.TheConstants.{COST_LIMIT}
use Rattle.lj_cover.specs.BlockLists.{cut_sizes}
use Rattle.lj_cover.specs.Derivations.{IsDerivation, IsFrom, IsIn, Tree, node, root_cell, tree_cost}
use Rattle.lj_cover.specs.Rules.{Part, Rule, Upload}
use Rattle.lj_cover.specs.Rules.{One as OneRule, Runs as RunsRule, All as AllRule, Leaf as LeafRule}
use Rattle.lj_cover.specs.Rules.{Derived as DerivedRule, Derived2 as Derived2Rule, Drop as DropRule, Add as AddRule}
use Rattle.lj_cover.specs.Rules.{Grow as GrowRule, Lower as LowerRule, Product as ProductRule}
use Rattle.lj_cover.specs.Rules.{Induced as InducedRule}
use Rattle.lj_deriv.specs.Trees.{trees_at}
use Rattle.lj_cert.specs.declared.certs.CertChild.{CertChild}
use Rattle.lj_cert.specs.declared.certs.CertNode.{CertNode}
use Rattle.lj_cert.specs.declared.certs.CertPart.{CertPart}
use Rattle.lj_cert.specs.declared.certs.CertRule.{CertRule}
use Rattle.lj_cert.specs.declared.certs.CertRule.TheVariants.{One, Runs, All, Leaf, Derived, Derived2, Drop, Add}
use Rattle.lj_cert.specs.declared.certs.CertRule.TheVariants.{Grow, Lower, Product, Induced}

-- the upload that a client's name and an ordinal name
pub record IsNamed (uploads : List Upload) (client : List ℕ) (ordinal : ℕ) (u : Upload) : Type 0 where
  pub there : Contains uploads u
  pub client_is : u.client ≡ client
  pub ordinal_is : u.ordinal ≡ ordinal

-- a part of a product, without its nodes
abbrev pub part_of : CertPart → Part
part_of p = record { a = p.a; b = p.b; l = p.l }

-- at the cell, the rule of a node's line is this one, and its children are the nodes with these numbers, from 1
abbrev pub IsUse : List Upload → Triple → CertRule → Rule → List ℕ → Type 0
IsUse uploads c One r is = (r ≡ OneRule c) × (is ≡ [])
IsUse uploads c Runs r is = (r ≡ RunsRule c) × (is ≡ [])
IsUse uploads c All r is = (r ≡ AllRule c) × (is ≡ [])
IsUse uploads c (Leaf client o) r is = (u : Upload) × IsNamed uploads client o u × (r ≡ LeafRule u) × (is ≡ [])
IsUse uploads c (Derived client o x) r is =
    (u : Upload) × IsNamed uploads client o u × (1 ≤ x) × (r ≡ DerivedRule u (x - 1)) × (is ≡ [])
IsUse uploads c (Derived2 client o x y) r is =
    (u : Upload) × IsNamed uploads client o u × (1 ≤ x) × (r ≡ Derived2Rule u (x - 1) (y - 1)) × (is ≡ [])
IsUse uploads c (Drop i) r is = (r ≡ DropRule c) × (is ≡ i ∷ [])
IsUse uploads c (Add i) r is = (r ≡ AddRule c) × (is ≡ i ∷ [])
IsUse uploads c (Grow i) r is = (r ≡ GrowRule c) × (is ≡ i ∷ [])
IsUse uploads c (Lower i) r is = (r ≡ LowerRule c) × (is ≡ i ∷ [])
IsUse uploads c (Product v1 parts) r is =
    (r ≡ ProductRule c v1 (map part_of parts)) × (is ≡ flat_map (λ (p : CertPart). p.first ∷ p.second ∷ []) parts)
IsUse uploads c (Induced client o children) r is =
    (u : Upload) × IsNamed uploads client o u × (r ≡ InducedRule u c.v c.k)
    × (map (λ (p : CertChild). p.l) children ≡ cut_sizes c.k c.v u.blocks)
    × (is ≡ map (λ (p : CertChild). p.child) children)

-- after nodes with these derivations, the node's line is one of this derivation: its children are earlier nodes, it is
-- in the frame and from the uploads, and its cell and cost, which is below `COST_LIMIT`, are those of the line
pub record UnfoldsTo (frame : Top) (uploads : List Upload) (trees : List Tree) (n : CertNode) (d : Tree) : Type 0 where
  pub rule : Rule
  pub children : List ℕ
  pub use_is : IsUse uploads n.cell n.rule rule children
  pub earlier : AllByRecursion (λ i. (1 ≤ i) × (i ≤ length trees)) children
  pub tree_is : d ≡ node rule (trees_at trees (map (λ i. i - 1) children))
  pub derivation : IsDerivation d
  pub inside : IsIn frame d
  pub from : IsFrom uploads d
  pub cell_is : root_cell d ≡ n.cell
  pub cost_is : tree_cost d ≡ n.cost
  pub small : tree_cost d < COST_LIMIT

-- after nodes with these derivations, the others unfold too, and the derivations of all are these
abbrev pub Unfold : Top → List Upload → List Tree → List CertNode → List Tree → Type 0
Unfold frame uploads trees [] all = trees ≡ all
Unfold frame uploads trees (n ∷ ns) all =
    (d : Tree) × UnfoldsTo frame uploads trees n d × Unfold frame uploads (trees ++ d ∷ []) ns all
