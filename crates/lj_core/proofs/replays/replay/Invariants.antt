use Rattle.lj_core.proofs.Replaying.{IsOnItsWay}
use Rattle.lj_core.proofs.replays.replay.Given as goal

abbrev pub invariant-loop-event : goal.invariant-loop-event
invariant-loop-event l = IsOnItsWay l.fn.frame l.yielded l.reads.items l.table l.tickets.items
