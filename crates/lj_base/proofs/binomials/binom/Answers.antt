use Rattle.std.proofs.Common.{arith, lit<}
use Rattle.lj_base.specs.declared.limits.TheConstants.{COST_LIMIT}
use Rattle.lj_base.proofs.BinomialTable.{table_has, table_small}
use Rattle.lj_base.proofs.binomials.binom.Goals as goal

pub returns-clause-value : goal.returns-clause-value
returns-clause-value c =
    table_has _ c.args.n c.args.r c.pascal-table.ensures.rows (omega arith) c.requires.small_sets

pub returns-clause-small : goal.returns-clause-small
returns-clause-small c = table_small COST_LIMIT _ c.args.n c.args.r (lit< tt) c.pascal-table.ensures.small
