use Rattle.std.proofs.Common.{ℕ, ◌<◌, length, subst}
use Rattle.lj_deriv.specs.Forests.{ForestValue, forest_tree}
use Rattle.lj_deriv.specs.Nodes.{IsDerivedIn}
use Rattle.lj_deriv.proofs.forests.Forest.len.Goals as goal

pub returns-clause-derive : goal.returns-clause-derive
returns-clause-derive c =
    subst (λ (f : ForestValue). (i : ℕ) → i < length f.rules → IsDerivedIn f.frame f.uploads (forest_tree f i))
    c.self.view_is c.nodes_derive.ensures
