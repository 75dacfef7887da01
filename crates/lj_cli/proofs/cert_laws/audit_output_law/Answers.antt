use Rattle.lj_cli.proofs.Auditing.{of_fault, of_good, of_refused, one_audit}
use Rattle.lj_cli.proofs.cert_laws.audit_output_law.Goals as goal

pub returns-clause-one : goal.returns-clause-one
returns-clause-one c = one_audit c.cert_law.ensures.cert c.cert_law.ensures.fault c.cert_law.ensures.either
    c.refusals_law.ensures.one c.refusals_law.ensures.none

pub returns-clause-good : goal.returns-clause-good
returns-clause-good c = of_good c.cert_law.ensures.cert c.cert_law.ensures.fault c.cert_law.ensures.either
    c.refusals_law.ensures.one c.refusals_law.ensures.none

pub returns-clause-refused : goal.returns-clause-refused
returns-clause-refused c = of_refused c.cert_law.ensures.cert c.cert_law.ensures.fault c.cert_law.ensures.either
    c.refusals_law.ensures.one c.refusals_law.ensures.none

pub returns-clause-fault : goal.returns-clause-fault
returns-clause-fault c = of_fault c.cert_law.ensures.cert c.cert_law.ensures.fault c.cert_law.ensures.either
    c.refusals_law.ensures.one c.refusals_law.ensures.none
