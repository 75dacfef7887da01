use Rattle.std.proofs.Common.{◌≡◌, ◌≤◌, false, length, vec_capacity, vec_len}
use Rattle.std.specs.List.{AllZip}
use Rattle.lj_board.specs.Seen.{NoneRises}
use Rattle.lj_gate.specs.Started.{GivesEnd}
use Rattle.lj_gate.proofs.clients.finish_clients.Given as goal

-- so many threads were joined; each had an end, or it is known that one failed
abbrev pub invariant-loop-one : goal.invariant-loop-one
invariant-loop-one g l = record {
  can : (goal.iterator-loop-one g).can_next l.one-iterator;
  finite : (goal.iterator-loop-one g).is_finite l.one-iterator;
  falls : NoneRises l.fn.pass l.pass;
  ends : l.failed ≡ false
      → AllZip (GivesEnd g.S.Serving.frame g.S.Serving.sections l.pass) l.yielded l.ends.items;
  count : vec_len l.ends ≤ length l.yielded;
  room : vec_capacity l.ends ≡ vec_capacity l.fn.ends;
}
