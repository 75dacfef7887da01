use Rattle.std.proofs.Common.{◌≡◌, length, vec_capacity, vec_len}
use Rattle.std.specs.List.{All}
use Rattle.lj_gate.specs.Started.{AreWorking, WorksOnBoard}
use Rattle.lj_gate.proofs.workers.start_workers.Given as goal

abbrev pub invariant-loop-pass : goal.invariant-loop-pass
invariant-loop-pass g l = record {
  passes : AreWorking g.S.Serving.frame l.yielded l.working.items;
  boards : All (WorksOnBoard l.fn.shared) l.working.items;
  shared : l.shared ≡ l.fn.shared;
  count : vec_len l.working ≡ length l.yielded;
  room : vec_capacity l.working ≡ vec_capacity l.fn.working;
}
