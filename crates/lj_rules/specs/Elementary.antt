-- Elementary rules, which have one child, and the cheapest of them at a cell.
use Rattle.std.specs.Prelude.{◌≡◌, ℕ, ◌≤◌, [], ◌∷◌}
use Rattle.lj_base.specs.Cells.{Triple}
use Rattle.lj_base.specs.Frames.{Top}
use Rattle.lj_cover.specs.Instances.{IsInstance, price}
use Rattle.lj_cover.specs.Rules.{Rule, Drop, Add, Grow, Lower, rule_children}
use Rattle.lj_rules.specs.declared.choices.Choice.{Choice}
use Rattle.lj_rules.specs.declared.choices.Kind.{Kind}
use Rattle.lj_rules.specs.declared.choices.Kind.TheVariants.{
  Drop as DropKind,
  Add as AddKind,
  Grow as GrowKind,
  Lower as LowerKind,
}

-- the rule of this kind at the cell
abbrev pub rule_of_kind : Kind → Triple → Rule
rule_of_kind DropKind c = Drop c
rule_of_kind AddKind c = Add c
rule_of_kind GrowKind c = Grow c
rule_of_kind LowerKind c = Lower c

-- the rule has one child
abbrev pub IsElementary : Rule → Type 0
IsElementary (Drop c) = Unit {0}
IsElementary (Add c) = Unit {0}
IsElementary (Grow c) = Unit {0}
IsElementary (Lower c) = Unit {0}
IsElementary r = ⊥

-- the choice is an instance at the cell, with its child, at its price
pub record IsElementaryChoice (frame : Top) (bounds : Triple → ℕ) (c : Triple) (choice : Choice) : Type 0 where
  pub instance : IsInstance frame [] c (rule_of_kind choice.kind c)
  pub child_is : rule_children (rule_of_kind choice.kind c) ≡ choice.child ∷ []
  pub cost_is : price bounds (rule_of_kind choice.kind c) ≡ choice.cost

-- and no elementary rule at the cell has a lower price
pub record IsLeastElementary (frame : Top) (bounds : Triple → ℕ) (c : Triple) (choice : Choice) : Type 0 where
  pub chosen : IsElementaryChoice frame bounds c choice
  pub least : (r : Rule) → IsElementary r → IsInstance frame [] c r → choice.cost ≤ price bounds r
