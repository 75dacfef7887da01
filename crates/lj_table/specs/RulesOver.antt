-- Rules of an arena over the nodes of a ticket.
use Rattle.std.specs.Prelude.{◌≡◌, ℕ, ◌-◌, ◌<◌, ◌≤◌, List, map, take, slice_index}
use Rattle.lj_base.specs.Cells.{Triple}
use Rattle.lj_base.specs.Frames.{InFrame, Top}
use Rattle.lj_cover.specs.Derivations.{root_cell, tree_cost}
use Rattle.lj_cover.specs.Rules.{triple}
use Rattle.lj_cover.specs.Rules.{Part as TreePart}
use Rattle.lj_deriv.specs.Nodes.{Nodes, IsValid, rule_tree}
use Rattle.lj_deriv.specs.declared.rules.Part.{Part}
use Rattle.lj_deriv.specs.declared.rules.Rule.{Rule}
use Rattle.lj_deriv.specs.declared.rules.Rule.TheVariants.{Drop as DropNode, Add as AddNode, Grow as GrowNode}
use Rattle.lj_deriv.specs.declared.rules.Rule.TheVariants.{Lower as LowerNode, Product as ProductNode}
use Rattle.lj_deriv.specs.declared.rules.Rule.TheVariants.{Induced as InducedNode}
use Rattle.lj_product.specs.declared.choices.PartChoice.{PartChoice}
use Rattle.lj_rules.specs.declared.choices.Kind.{Kind}
use Rattle.lj_rules.specs.declared.choices.Kind.TheVariants.{Drop as DropKind, Add as AddKind, Grow as GrowKind}
use Rattle.lj_rules.specs.declared.choices.Kind.TheVariants.{Lower as LowerKind}

-- the rule may be added to the arena, and its derivation is of the cell and costs n
pub record IsRuleFor (a : Nodes) (c : Triple) (n : ℕ) (r : Rule) : Type 0 where
  pub valid : IsValid a.uploads a.rules r
  pub cell : root_cell (rule_tree a r) ≡ c
  pub cost : tree_cost (rule_tree a r) ≡ n

abbrev pub kind_node : Kind → ℕ → Rule
kind_node DropKind i = DropNode i
kind_node AddKind i = AddNode i
kind_node GrowKind i = GrowNode i
kind_node LowerKind i = LowerNode i

-- a part of a product over the cells' nodes
abbrev pub part_node : (Triple → ℕ) → Triple → ℕ → PartChoice → Part
part_node nodes c v1 p = record {
  a = p.a;
  b = p.b;
  l = p.l;
  first = nodes (triple v1 p.l p.b);
  second = nodes (triple (c.v - v1) (c.k - p.l) (c.t - p.a));
}

-- both cells of a part are in the frame, and the first is no greater than the whole
pub record IsServed (f : Top) (c : Triple) (v1 : ℕ) (p : TreePart) : Type 0 where
  pub k : p.l ≤ c.k
  pub t : p.a ≤ c.t
  pub first : InFrame f (triple v1 p.l p.b)
  pub second : InFrame f (triple (c.v - v1) (c.k - p.l) (c.t - p.a))

pub record IsProductNode (nodes : Triple → ℕ) (c : Triple) (v1 : ℕ) (choices : List PartChoice) (count : ℕ) (r : Rule)
    : Type 0 where
  pub parts : List Part
  pub rule : r ≡ ProductNode c v1 parts count
  pub are : take count parts ≡ map (part_node nodes c v1) (take count choices)

pub record IsInducedNode (nodes : Triple → ℕ) (c : Triple) (upload : ℕ) (r : Rule) : Type 0 where
  pub children : List ℕ
  pub rule : r ≡ InducedNode c upload children
  pub are : (l : ℕ) → c.k < l → l ≤ c.v → l < 26 → slice_index children l ≡ nodes (triple l c.k c.t)
