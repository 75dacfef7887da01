use Rattle.std.proofs.Common.{take}
use Rattle.std.specs.List.{AllByRecursion}
use Rattle.lj_session.specs.Offered.{IsOffered}
use Rattle.lj_session.proofs.offering.are_offered.Given as goal

abbrev pub invariant-loop-up : goal.invariant-loop-up
invariant-loop-up l = AllByRecursion (IsOffered l.sections) (take l.up-index l.uploads)
