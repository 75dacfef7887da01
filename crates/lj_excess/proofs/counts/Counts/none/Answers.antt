use Rattle.std.proofs.Common.{refl, ◌∙◌}
use Rattle.lj_excess.proofs.BlockTallies.{tally_none, tally_parts}
use Rattle.lj_excess.proofs.counts.Counts.none.Goals as goal

pub returns-clause-counts : goal.returns-clause-counts
returns-clause-counts c =
    tally_parts c.args.cell c.args.cell c.in-Ok.counts.items _ refl
    (c.in-Ok.ensures ∙ tally_none c.args.cell c.set_count-n.result c.set_count-n.ensures)
