use Rattle.lj_cert.proofs.OneReading.{cert_or_fault, one_cert, one_fault}
use Rattle.lj_cert.proofs.laws.cert_law.Goals as goal

pub returns-clause-cert : goal.returns-clause-cert
returns-clause-cert c = one_cert c.one_reading_law.ensures.line

pub returns-clause-fault : goal.returns-clause-fault
returns-clause-fault c = one_fault c.one_reading_law.ensures.line

pub returns-clause-either : goal.returns-clause-either
returns-clause-either c = cert_or_fault c.one_reading_law.ensures.line
