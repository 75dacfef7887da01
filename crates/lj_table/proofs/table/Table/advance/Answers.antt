use Rattle.lj_table.proofs.Distances.{later_both, later_spare}
use Rattle.lj_table.proofs.table.Table.advance.Goals as goal

pub returns-clause-later : goal.returns-clause-later
returns-clause-later c =
    later_both c.args.self.now c.reserve.new.self c.turn.new.self
    (later_spare c.args.self.now c.reserve.new.self c.reserve.ensures.same c.reserve.ensures.fits)
    c.turn.ensures.later
