use Rattle.lj_cert.proofs.OneRefusal.{no_reason, one_reason}
use Rattle.lj_cert.proofs.laws.refusals_law.Goals as goal

pub returns-clause-one : goal.returns-clause-one
returns-clause-one c = one_reason (record {
  one_refusal = c.outcome_law.ensures.one_refusal;
  no_refusal = c.outcome_law.ensures.no_refusal;
  one_to_one = c.index_law.ensures.one_to_one;
})

pub returns-clause-none : goal.returns-clause-none
returns-clause-none c = no_reason (record {
  one_refusal = c.outcome_law.ensures.one_refusal;
  no_refusal = c.outcome_law.ensures.no_refusal;
  one_to_one = c.index_law.ensures.one_to_one;
})
