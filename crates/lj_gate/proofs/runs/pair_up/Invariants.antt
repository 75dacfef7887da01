use Rattle.std.proofs.Common.{◌≡◌, map}
use Rattle.lj_gate.proofs.Pairing.{job_of}
use Rattle.lj_gate.proofs.runs.pair_up.Given as goal

abbrev pub invariant-loop-session : goal.invariant-loop-session
invariant-loop-session l = l.jobs.items ≡ map job_of l.yielded
