use Rattle.lj_cert.proofs.Outcomes.{good_is_not_refused, refused_for_its_reason}
use Rattle.lj_cert.proofs.auditing.audit.Goals as goal

pub returns-clause-complete : goal.returns-clause-complete
returns-clause-complete g c =
    good_is_not_refused c.args.cert c.tried.result c.refusals_law.ensures.none c.tried.ensures.distinct
    c.tried.ensures.refused

pub returns-clause-exact : goal.returns-clause-exact
returns-clause-exact g c =
    refused_for_its_reason c.args.cert c.tried.result c.refusals_law.ensures.none c.refusals_law.ensures.one
    c.tried.ensures.distinct c.tried.ensures.good c.tried.ensures.refused
