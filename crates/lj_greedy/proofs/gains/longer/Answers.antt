use Rattle.lj_greedy.proofs.RowSteps.{AllBelow-last}
use Rattle.lj_greedy.proofs.gains.longer.Goals as goal

pub push-requires-clause-greatest : goal.push-requires-clause-greatest
push-requires-clause-greatest c = AllBelow-last 99 c.args.row c.args.p c.requires.ascends
