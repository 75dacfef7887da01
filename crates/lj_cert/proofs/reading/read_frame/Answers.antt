use Rattle.std.proofs.Common.{refl}
use Rattle.lj_cert.proofs.reading.read_frame.Goals as goal

pub returns-in-None-clause-fault : goal.returns-in-None-clause-fault
returns-in-None-clause-fault c = rw (c.in-Some.ensures.steps, ← c.text_of.ensures) (refl, c.in-None.ensures.none)
