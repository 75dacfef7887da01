use Rattle.std.proofs.Common.{◌≡◌}
use Rattle.lj_shared.specs.Changes.{AreChangesOf}
use Rattle.lj_shared.proofs.locked.record_from.Given as goal

abbrev pub invariant-loop-node : goal.invariant-loop-node
invariant-loop-node l =
    (l.history.history ≡ l.fn.history.history) × AreChangesOf l.table.arena l.node l.history.changes
