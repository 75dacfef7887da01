use Rattle.std.proofs.Common.{take}
use Rattle.std.specs.List.{AllByRecursion}
use Rattle.lj_upload.specs.Uploads.{IsAccepted}
use Rattle.lj_cert.proofs.written.accepted_law.Given as goal

abbrev pub invariant-loop-up : goal.invariant-loop-up
invariant-loop-up l = AllByRecursion IsAccepted (take l.up-index l.uploads)
