use Rattle.std.proofs.Common.{arith}
use Rattle.lj_expand.proofs.Runs.{one-all}
use Rattle.lj_expand.proofs.filling.fill_one.Goals as goal

pub returns-then-out-eq1 : goal.returns-then-out-eq1
returns-then-out-eq1 c = one-all c.args.out.now c.args.block (omega arith)
