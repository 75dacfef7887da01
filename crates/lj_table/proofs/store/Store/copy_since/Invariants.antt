use Rattle.lj_table.proofs.KnownTickets.{IsUpdated}
use Rattle.lj_table.proofs.store.Store.copy_since.Given as goal

abbrev pub invariant-loop-node : goal.invariant-loop-node
invariant-loop-node l =
    IsUpdated l.self.arena.frame l.nodes l.node l.self.bounds.items l.self.nodes.items l.initial.ticket l.ticket
