use Rattle.lj_session.specs.Handling.{GoesOnToAsk, work_left}
use Rattle.lj_session.proofs.sessions.Session.step.Given as goal

abbrev pub invariant-loop-self : goal.invariant-loop-self
invariant-loop-self g l = GoesOnToAsk l.fn.self l.self

abbrev pub decreases-loop-self : goal.decreases-loop-self
decreases-loop-self g l = work_left l.self.ask l.self.left
