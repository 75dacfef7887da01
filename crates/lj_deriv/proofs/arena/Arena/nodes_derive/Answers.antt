use Rattle.std.proofs.Common.{ℕ, ◌<◌, length, subst}
use Rattle.lj_deriv.specs.Nodes.{IsDerivedIn, Nodes, node_tree}
use Rattle.lj_deriv.proofs.Storing.{IsDerivedIn-stored}
use Rattle.lj_deriv.proofs.arena.Arena.nodes_derive.Goals as goal

pub returns : goal.returns
returns c =
    subst (λ (a : Nodes). (i : ℕ) → i < length a.rules → IsDerivedIn a.frame a.uploads (node_tree a i)) c.self.view_is
    (IsDerivedIn-stored c.costs_are_positive.ensures.derivation c.self.inside.frame
    c.self.inside.uploads.items c.self.inside.nodes.items c.self.invariant.0)
