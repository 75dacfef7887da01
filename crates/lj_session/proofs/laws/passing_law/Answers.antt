use Rattle.lj_session.proofs.Passing.{accept_passes, bound_passes, plan_passes, settle_passes}
use Rattle.lj_session.proofs.laws.passing_law.Goals as goal

pub returns : goal.returns
returns c = record { accept = accept_passes; bound = bound_passes; plan = plan_passes; settle = settle_passes }
