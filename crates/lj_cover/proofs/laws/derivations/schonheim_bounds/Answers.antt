use Rattle.lj_cover.proofs.LowerNumber.{schonheim_bounds}
use Rattle.lj_cover.proofs.LeastCosts.{schonheim_derivable}
use Rattle.lj_cover.proofs.laws.derivations.schonheim_bounds.Goals as goal

pub returns-clause-covering : goal.returns-clause-covering
returns-clause-covering c = schonheim_bounds

pub returns-clause-derivable : goal.returns-clause-derivable
returns-clause-derivable c = schonheim_derivable
