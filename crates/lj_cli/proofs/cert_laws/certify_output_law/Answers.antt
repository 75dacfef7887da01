use Rattle.lj_cli.proofs.Certifying.{audits_well, of_fault, of_script, one_bounds}
use Rattle.lj_cli.proofs.cert_laws.certify_output_law.Goals as goal

pub returns-clause-script : goal.returns-clause-script
returns-clause-script c = of_script c.script_law.ensures.script c.script_law.ensures.fault c.script_law.ensures.either

pub returns-clause-fault : goal.returns-clause-fault
returns-clause-fault c = of_fault c.script_law.ensures.script c.script_law.ensures.fault c.script_law.ensures.either

pub returns-clause-audited : goal.returns-clause-audited
returns-clause-audited c = audits_well c.audit_output_law.ensures.good

pub returns-clause-report : goal.returns-clause-report
returns-clause-report c =
    one_bounds c.script_law.ensures.script c.one_report_law.ensures.accepted c.one_outcome_law.ensures.sections
    c.one_report_law.ensures.text
