use Rattle.lj_base.specs.declared.limits.TheConstants.{MAX_INPUT}
use Rattle.lj_cli.specs.BigOutput.{IsBigCommandOutput}
use Rattle.lj_cli.specs.ServeOutput.{IsServeCommandOutput}
use Rattle.lj_cli.proofs.Ending.{complete, unread_output}
use Rattle.lj_cli.proofs.serve_laws.served_whole_law.Goals as goal

pub returns-clause-serve : goal.returns-clause-serve
returns-clause-serve c = λ json. complete MAX_INPUT (IsServeCommandOutput json)

pub returns-clause-big : goal.returns-clause-big
returns-clause-big c = λ m. unread_output (IsBigCommandOutput m)
