use Rattle.std.proofs.Common.{take}
use Rattle.lj_session.specs.Offered.{IsOffered}
use Rattle.lj_session.proofs.offering.is_offered.Given as goal

abbrev pub invariant-loop-section : goal.invariant-loop-section
invariant-loop-section l = IsOffered (take l.section-index l.sections) l.up → ⊥
