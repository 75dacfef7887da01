use Rattle.lj_cover.proofs.MoreUploads.{derivable_from_appended, derivable_from_more, instance_from_more, least_falls}
use Rattle.lj_cover.proofs.MoreUploads.{rule_from_more, tree_from_more}
use Rattle.lj_cover.proofs.laws.derivations.more_uploads_derive.Goals as goal

pub returns-clause-rule : goal.returns-clause-rule
returns-clause-rule c = λ uploads others r among. rule_from_more uploads others among r

pub returns-clause-instance : goal.returns-clause-instance
returns-clause-instance c = instance_from_more

pub returns-clause-derivation : goal.returns-clause-derivation
returns-clause-derivation c = λ uploads others d among. tree_from_more uploads others among d

pub returns-clause-derivable : goal.returns-clause-derivable
returns-clause-derivable c = derivable_from_more

pub returns-clause-appended : goal.returns-clause-appended
returns-clause-appended c = derivable_from_appended

pub returns-clause-least : goal.returns-clause-least
returns-clause-least c = least_falls
