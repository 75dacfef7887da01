use Rattle.lj_session.proofs.Serving.{served_below}
use Rattle.lj_session.proofs.laws.limits_law.Goals as goal

pub returns : goal.returns
returns c = served_below
