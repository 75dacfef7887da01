use Rattle.lj_script.proofs.OneReading.{no_fault, one_fault, one_script}
use Rattle.lj_script.proofs.laws.script_law.Goals as goal

pub returns-clause-script : goal.returns-clause-script
returns-clause-script c = one_script

pub returns-clause-fault : goal.returns-clause-fault
returns-clause-fault c = one_fault

pub returns-clause-either : goal.returns-clause-either
returns-clause-either c = no_fault
