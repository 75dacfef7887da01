use Rattle.lj_session.proofs.Accepting.{asks_inside}
use Rattle.lj_session.proofs.laws.ask_law.Goals as goal

pub returns : goal.returns
returns c = asks_inside
