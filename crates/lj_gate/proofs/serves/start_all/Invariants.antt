use Rattle.std.proofs.Common.{◌≡◌, map}
use Rattle.lj_session.specs.Sessions.{new_session}
use Rattle.lj_gate.proofs.serves.start_all.Given as goal

abbrev pub invariant-loop-section : goal.invariant-loop-section
invariant-loop-section l = l.sessions.items ≡ map (new_session l.frame) l.yielded
