use Rattle.lj_verify.proofs.Outcomes.{no_refusal, one_refusal}
use Rattle.lj_verify.proofs.laws.outcome_law.Goals as goal

pub returns-clause-one_refusal : goal.returns-clause-one_refusal
returns-clause-one_refusal c = one_refusal c.rank_law.ensures c.order_law.ensures

pub returns-clause-no_refusal : goal.returns-clause-no_refusal
returns-clause-no_refusal c = no_refusal
