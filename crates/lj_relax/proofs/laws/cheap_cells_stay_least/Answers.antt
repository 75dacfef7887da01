use Rattle.lj_relax.proofs.Publishing.{still_least}
use Rattle.lj_relax.proofs.laws.cheap_cells_stay_least.Goals as goal

pub returns : goal.returns
returns c =
    still_least c.costs_are_positive.ensures.derivable c.derivations_stay_inside.ensures.derivable
    c.induced_has_instances.ensures.instance c.more_uploads_derive.ensures.instance c.price_by_row.ensures.by_row
    c.price_grows.ensures.at_least c.prices_are_derivable.ensures c.reads_are_children.ensures.each
    c.rows_are_of_uploads.ensures.rows
