use Rattle.lj_cover.proofs.MoreUploads.{price_is_derivable}
use Rattle.lj_cover.proofs.laws.prices.prices_are_derivable.Goals as goal

pub returns : goal.returns
returns c = price_is_derivable
