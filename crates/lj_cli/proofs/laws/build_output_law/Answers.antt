use Rattle.lj_cli.proofs.Building.{of_fault, of_script, one_report}
use Rattle.lj_cli.proofs.laws.build_output_law.Goals as goal

pub returns-clause-script : goal.returns-clause-script
returns-clause-script c = of_script c.script_law.ensures.script c.script_law.ensures.fault c.script_law.ensures.either

pub returns-clause-fault : goal.returns-clause-fault
returns-clause-fault c = of_fault c.script_law.ensures.script c.script_law.ensures.fault c.script_law.ensures.either

pub returns-clause-report : goal.returns-clause-report
returns-clause-report c = λ script json bytes text other status ended is first second.
    let outputs = of_script c.script_law.ensures.script c.script_law.ensures.fault c.script_law.ensures.either json
    bytes
    in
    one_report c.one_report_law.ensures.accepted c.one_outcome_law.ensures.sections c.one_report_law.ensures.text script
    json text other is.names_frame.in_limits (outputs text status script first is).1
    (outputs other ended script second is).1
