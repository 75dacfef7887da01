use Rattle.lj_cli.proofs.Calls.{one_call}
use Rattle.lj_cli.proofs.laws.words_law.Goals as goal

pub returns : goal.returns
returns c = one_call
