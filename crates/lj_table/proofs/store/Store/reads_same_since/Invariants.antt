use Rattle.std.proofs.Common.{◌≡◌, ℕ, ◌<◌, ◌≤◌}
use Rattle.lj_base.specs.Bounds.{at_cell}
use Rattle.lj_cover.specs.Derivations.{root_cell}
use Rattle.lj_cover.specs.Instances.{Reads}
use Rattle.lj_deriv.specs.Nodes.{node_tree}
use Rattle.lj_table.proofs.store.Store.reads_same_since.Given as goal

abbrev pub invariant-loop-node : goal.invariant-loop-node
invariant-loop-node l = (i : ℕ) → l.nodes ≤ i → i < l.node
    → Reads l.self.arena.frame l.ticket.cell (root_cell (node_tree l.self.arena i))
    → at_cell l.ticket.frame l.ticket.bounds (root_cell (node_tree l.self.arena i))
    ≡ at_cell l.self.arena.frame l.self.bounds.items (root_cell (node_tree l.self.arena i))
