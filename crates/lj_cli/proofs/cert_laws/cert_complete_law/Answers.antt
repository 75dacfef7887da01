use Rattle.lj_base.specs.declared.limits.TheConstants.{MAX_INPUT}
use Rattle.lj_cli.specs.AuditOutput.{IsAuditOutput}
use Rattle.lj_cli.specs.CertifyOutput.{IsCertifyOutput}
use Rattle.lj_cli.specs.declared.limits.TheConstants.{MAX_CERT_INPUT}
use Rattle.lj_cli.proofs.Ending.{complete}
use Rattle.lj_cli.proofs.cert_laws.cert_complete_law.Goals as goal

pub returns-clause-certified : goal.returns-clause-certified
returns-clause-certified c = complete MAX_INPUT IsCertifyOutput

pub returns-clause-audited : goal.returns-clause-audited
returns-clause-audited c = complete MAX_CERT_INPUT IsAuditOutput
