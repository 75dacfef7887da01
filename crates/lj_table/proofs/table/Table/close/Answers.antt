use Rattle.std.proofs.Common.{subst}
use Rattle.lj_table.specs.Tables.{IsTable}
use Rattle.lj_table.proofs.Rested.{turn_at}
use Rattle.lj_table.proofs.table.Table.close.Goals as goal

pub returns-clause-turn : goal.returns-clause-turn
returns-clause-turn c =
    turn_at c.args.self.now c.keep_closed.new.self c.args.c (subst IsTable c.self.view_is c.self.invariant.table)
    c.requires.first.inside c.requires.first.unmarked c.keep_closed.ensures.marks
