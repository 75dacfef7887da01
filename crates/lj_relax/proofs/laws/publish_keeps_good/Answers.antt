use Rattle.lj_relax.proofs.Publishing.{published_good}
use Rattle.lj_relax.proofs.laws.publish_keeps_good.Goals as goal

pub returns : goal.returns
returns c =
    published_good c.costs_are_positive.ensures.derivable c.derivations_stay_inside.ensures.derivable
    c.induced_has_instances.ensures.instance c.more_uploads_derive.ensures.instance c.price_by_row.ensures.by_row
    c.price_grows.ensures.at_least c.prices_are_derivable.ensures c.reads_are_children.ensures.each
    c.rows_are_of_uploads.ensures.rows
