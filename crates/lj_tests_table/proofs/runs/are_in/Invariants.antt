use Rattle.std.proofs.Common.{All, take}
use Rattle.lj_core.specs.Runs.{IsEventIn}
use Rattle.lj_tests_table.proofs.runs.are_in.Given as goal

abbrev pub invariant-loop-event : goal.invariant-loop-event
invariant-loop-event l = All (IsEventIn l.frame) (take l.event-index l.events)
