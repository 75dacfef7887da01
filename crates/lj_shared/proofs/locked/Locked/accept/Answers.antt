use Rattle.std.proofs.Common.{refl}
use Rattle.lj_shared.proofs.Changes.{before_more}
use Rattle.lj_shared.proofs.locked.Locked.accept.Goals as goal

pub record_from-requires-clause-changes : goal.record_from-requires-clause-changes
record_from-requires-clause-changes g c =
    before_more c.self.inside.held c.accept.new.self c.table.result.now c.table-2.result.now c.node_count-from.result
    c.self.inside.history c.self.inside.history c.table.ensures.table c.node_count-from.ensures
    c.table-2.ensures.table refl c.accept.ensures.extends c.self.invariant.1
