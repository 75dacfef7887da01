-- When a rule may follow the nodes that are there, and what is then known of its node.
use Rattle.std.specs.Prelude.{◌≡◌, ℕ, ◌<◌, ◌≤◌, List, length, take}
use Rattle.std.specs.List.{AllByRecursion}
use Rattle.lj_base.specs.declared.limits.TheConstants.{COST_LIMIT}
use Rattle.lj_cover.specs.Derivations.{IsSound, root_cells, tree_cost}
use Rattle.lj_cover.specs.Rules.{Upload, rule_children}
use Rattle.lj_deriv.specs.declared.rules.Rule.{Rule}
use Rattle.lj_deriv.specs.declared.rules.Rule.TheVariants.{Product, Induced}
use Rattle.lj_deriv.specs.Trees.{build, children_of, rule_at, rule_of, tree_at, trees_at, trees_of, upload_at}
use Rattle.lj_deriv.specs.Trees.{uploads_of}

-- the node's array holds its parts, and an induced node's cell has its upload's t
abbrev pub IsShaped : List Upload → Rule → Type 0
IsShaped uploads (Product c v1 parts count) = count ≤ 9
IsShaped uploads (Induced c u children) = c.t ≡ (upload_at uploads u).cell.t
IsShaped uploads r = Unit {0}

-- an induced node's cell has no more points than its upload
abbrev pub IsNarrow : List Upload → Rule → Type 0
IsNarrow uploads (Induced c u children) = c.v ≤ (upload_at uploads u).cell.v
IsNarrow uploads r = Unit {0}

-- a rule may follow these nodes: what it names is there, with its children it is a rule's use as the table of rules
-- allows, and its cost is below `COST_LIMIT`
pub record IsValid (uploads : List Upload) (rules : List Rule) (r : Rule) : Type 0 where
  pub shaped : IsShaped uploads r
  pub children : AllByRecursion (λ i. i < length rules) (children_of uploads r)
  pub uploads_there : AllByRecursion (λ u. u < length uploads) (uploads_of r)
  pub sound : IsSound (rule_of uploads (trees_of uploads rules) r)
  pub fitting : root_cells (trees_at (trees_of uploads rules) (children_of uploads r))
      ≡ rule_children (rule_of uploads (trees_of uploads rules) r)
  pub small : tree_cost (build uploads (trees_of uploads rules) r) < COST_LIMIT

-- each rule may follow those before it
abbrev pub AreValid : List Upload → List Rule → Type 0
AreValid uploads rules = (i : ℕ) → i < length rules → IsValid uploads (take i rules) (rule_at rules i)

-- the node with this number has this rule: its children stand before it, its upload is there, with its children it is
-- a rule's use as the table of rules allows, and its derivation is built by the rule
pub record IsNode (uploads : List Upload) (rules : List Rule) (i : ℕ) (r : Rule) : Type 0 where
  pub rule : r ≡ rule_at rules i
  pub shaped : IsShaped uploads r
  pub children : AllByRecursion (λ j. j < i) (children_of uploads r)
  pub uploads_there : AllByRecursion (λ u. u < length uploads) (uploads_of r)
  pub sound : IsSound (rule_of uploads (trees_of uploads rules) r)
  pub fitting : root_cells (trees_at (trees_of uploads rules) (children_of uploads r))
      ≡ rule_children (rule_of uploads (trees_of uploads rules) r)
  pub unfolds : tree_at (trees_of uploads rules) i ≡ build uploads (trees_of uploads rules) r
  pub small : tree_cost (build uploads (trees_of uploads rules) r) < COST_LIMIT
