use Rattle.std.proofs.Common.{arith}
use Rattle.lj_greedy.specs.Gains.{is_zero_at}
use Rattle.lj_greedy.proofs.PointGains.{gains_none}
use Rattle.lj_greedy.proofs.gains.start_gains.Goals as goal

pub returns-else-set_size-eq1-clause-gains : goal.returns-else-set_size-eq1-clause-gains
returns-else-set_size-eq1-clause-gains c =
    gains_none (is_zero_at c.args.counts.now.counts) c.args.counts.now.cell.t c.args.gains.now
    (λ one. c.if-set_size-eq1.false (omega (arith, one, c.set_size.ensures.value))) c.requires.zeros
