use Rattle.lj_cover.proofs.MoreUploads.{derivable_anywhere, derivable_by_members, root_inside, roots_inside}
use Rattle.lj_cover.proofs.laws.derivations.derivations_stay_inside.Goals as goal

pub returns-clause-root : goal.returns-clause-root
returns-clause-root c = root_inside

pub returns-clause-roots : goal.returns-clause-roots
returns-clause-roots c = roots_inside

pub returns-clause-derivable : goal.returns-clause-derivable
returns-clause-derivable c = derivable_anywhere

pub returns-clause-members : goal.returns-clause-members
returns-clause-members c = derivable_by_members
