use Rattle.std.proofs.Common.{take}
use Rattle.lj_cert.specs.Lowest.{AreOffered, IsLeastOf}
use Rattle.lj_cert.proofs.lowest.offered_cost.Given as goal

abbrev pub invariant-loop-up : goal.invariant-loop-up
invariant-loop-up l = IsLeastOf (AreOffered (take l.up-index l.uploads) l.cell) l.least
