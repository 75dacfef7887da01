use Rattle.lj_base.proofs.CellCounts.{before_low_is, before_high_is}
use Rattle.lj_base.proofs.frames.before.Goals as goal

pub returns-then-k-t-clause-before : goal.returns-then-k-t-clause-before
returns-then-k-t-clause-before c = before_low_is c.args.t c.args.k c.if-k-t.true

pub returns-else-k-t-clause-before : goal.returns-else-k-t-clause-before
returns-else-k-t-clause-before c = before_high_is c.args.t c.args.k c.if-k-t.false
