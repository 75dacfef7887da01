use Rattle.std.proofs.Common.{◌≡◌, length, vec_capacity, vec_len}
use Rattle.std.specs.List.{All}
use Rattle.lj_gate.specs.Started.{AreStarted, IsOnBoard}
use Rattle.lj_gate.proofs.clients.start_clients.Given as goal

abbrev pub invariant-loop-job : goal.invariant-loop-job
invariant-loop-job g l = record {
  jobs : AreStarted g.S.Serving.frame g.S.Serving.sections l.yielded l.started.items;
  boards : All (IsOnBoard l.fn.shared) l.started.items;
  shared : l.shared ≡ l.fn.shared;
  count : vec_len l.started ≡ length l.yielded;
  room : vec_capacity l.started ≡ vec_capacity l.fn.started;
}
