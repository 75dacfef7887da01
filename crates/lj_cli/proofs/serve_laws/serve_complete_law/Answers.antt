use Rattle.lj_cli.proofs.Headlines.{fault_ends, script_ends}
use Rattle.lj_cli.proofs.serve_laws.serve_complete_law.Goals as goal

pub returns-clause-script : goal.returns-clause-script
returns-clause-script c = script_ends c.script_law.ensures.script c.script_law.ensures.fault c.script_law.ensures.either

pub returns-clause-fault : goal.returns-clause-fault
returns-clause-fault c = fault_ends c.script_law.ensures.script c.script_law.ensures.fault c.script_law.ensures.either
