use Rattle.lj_relax.proofs.Resting.{rest_least}
use Rattle.lj_relax.proofs.laws.rest_is_least.Goals as goal

pub returns : goal.returns
returns c =
    rest_least c.bases_have_no_children.ensures.either c.bases_have_no_children.ensures.cost
    c.derivations_stay_inside.ensures.roots c.price_grows.ensures.grows
