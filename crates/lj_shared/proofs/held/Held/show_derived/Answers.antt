use Rattle.std.proofs.Common.{le_trans}
use Rattle.lj_shared.specs.Holding.{derived_cell}
use Rattle.lj_shared.proofs.held.Held.show_derived.Goals as goal

pub returns-clause-shown : goal.returns-clause-shown
returns-clause-shown g c = record {
  own = le_trans (c.show_at-2.ensures.falls.1 c.args.c)
      (le_trans (c.show_at.ensures.falls.1 c.args.c) c.show.ensures.shown);
  point = λ few more. le_trans (c.show_at-2.ensures.falls.1 (derived_cell c.args.c 1))
      (c.show_at.ensures.shown few more);
  pair = λ few more. c.show_at-2.ensures.shown few more;
}
