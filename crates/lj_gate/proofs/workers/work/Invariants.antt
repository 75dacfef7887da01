use Rattle.std.proofs.Common.{◌≡◌}
use Rattle.lj_board.specs.Seen.{NoneRises}
use Rattle.lj_gate.proofs.workers.work.Given as goal

abbrev pub invariant-loop : goal.invariant-loop
invariant-loop g l =
    (goal.iterator-loop g).can_next l.iterator' × (goal.iterator-loop g).is_finite l.iterator'
    × NoneRises l.fn.pass l.pass
