use Rattle.lj_board.specs.Seen.{NoneRises}
use Rattle.lj_tests_shared.proofs.workers.work_all.Given as goal

abbrev pub invariant-loop-turn : goal.invariant-loop-turn
invariant-loop-turn g l = NoneRises l.fn.pass l.pass
