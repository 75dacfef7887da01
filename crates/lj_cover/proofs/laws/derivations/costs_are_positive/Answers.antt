use Rattle.lj_cover.proofs.MoreUploads.{cost_at_least_one, covering_has_block, derivable_at_least_one}
use Rattle.lj_cover.proofs.laws.derivations.costs_are_positive.Goals as goal

pub returns-clause-covering : goal.returns-clause-covering
returns-clause-covering c = covering_has_block

pub returns-clause-derivation : goal.returns-clause-derivation
returns-clause-derivation c = cost_at_least_one

pub returns-clause-derivable : goal.returns-clause-derivable
returns-clause-derivable c = derivable_at_least_one
