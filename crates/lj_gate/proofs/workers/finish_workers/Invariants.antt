use Rattle.std.specs.List.{AllByRecursion}
use Rattle.lj_board.specs.Seen.{NoneRises}
use Rattle.lj_gate.specs.Started.{IsJoinedTo}
use Rattle.lj_gate.proofs.workers.finish_workers.Given as goal

abbrev pub invariant-loop-one : goal.invariant-loop-one
invariant-loop-one g l = record {
  can : (goal.iterator-loop-one g).can_next l.one-iterator;
  finite : (goal.iterator-loop-one g).is_finite l.one-iterator;
  falls : NoneRises l.fn.pass l.pass;
  joined : AllByRecursion (IsJoinedTo g.S.Serving.frame l.pass) l.yielded;
}
