use Rattle.lj_base.specs.declared.limits.TheConstants.{MAX_INPUT}
use Rattle.lj_cli.specs.BuildOutput.{IsBuildCommandOutput}
use Rattle.lj_cli.specs.CheckOutput.{IsCheckOutput}
use Rattle.lj_cli.specs.CountOutput.{IsExcessOutput, IsGreedyOutput, IsReduceOutput}
use Rattle.lj_cli.proofs.Ending.{complete, unread, unread_output, usage}
use Rattle.lj_cli.proofs.laws.complete_law.Goals as goal

pub returns-clause-check : goal.returns-clause-check
returns-clause-check c = λ cell. complete MAX_INPUT (IsCheckOutput cell)

pub returns-clause-build : goal.returns-clause-build
returns-clause-build c = λ json. complete MAX_INPUT (IsBuildCommandOutput json)

pub returns-clause-excess : goal.returns-clause-excess
returns-clause-excess c = λ cell. complete MAX_INPUT (IsExcessOutput cell)

pub returns-clause-reduced : goal.returns-clause-reduced
returns-clause-reduced c = λ cell. complete MAX_INPUT (IsReduceOutput cell)

pub returns-clause-generated : goal.returns-clause-generated
returns-clause-generated c = unread

pub returns-clause-greedy : goal.returns-clause-greedy
returns-clause-greedy c = λ cell. unread_output (IsGreedyOutput cell)

pub returns-clause-usage : goal.returns-clause-usage
returns-clause-usage c = usage
