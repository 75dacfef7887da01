use Rattle.lj_cli.proofs.Headlines.{equal_reports}
use Rattle.lj_cli.proofs.serve_laws.equal_reports_law.Goals as goal

pub returns : goal.returns
returns c =
    equal_reports c.one_report_law.ensures.text c.one_report_law.ensures.accepted c.one_outcome_law.ensures.sections
    c.script_law.ensures.script
