use Rattle.lj_cover.proofs.BaseRules.{base_children, base_cost, base_or_step}
use Rattle.lj_cover.proofs.laws.rules.bases_have_no_children.Goals as goal

pub returns-clause-either : goal.returns-clause-either
returns-clause-either c = base_or_step

pub returns-clause-children : goal.returns-clause-children
returns-clause-children c = base_children

pub returns-clause-cost : goal.returns-clause-cost
returns-clause-cost c = base_cost
