use Rattle.lj_session.proofs.Stepping.{goes_nowhere, goes_on_next}
use Rattle.lj_session.proofs.sessions.Session.step.Goals as goal

pub loop-self-init : goal.loop-self-init
loop-self-init g c = goes_nowhere _ c.requires

pub loop-self-preserved : goal.loop-self-preserved
loop-self-preserved g c = goes_on_next _ _ _ c.loop-self.invariant c.in_ok-take_one.ensures
