use Rattle.lj_board.specs.Seen.{NoneRises}
use Rattle.lj_shared.proofs.shared.Shared.settle.Given as goal

abbrev pub invariant-loop : goal.invariant-loop
invariant-loop g l =
    (goal.iterator-loop g).can_next l.iterator' × (goal.iterator-loop g).is_finite l.iterator'
    × NoneRises l.fn.pass l.pass
