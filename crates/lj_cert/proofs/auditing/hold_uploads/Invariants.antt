use Rattle.std.proofs.Common.{◌≡◌, [], length}
use Rattle.std.specs.List.{AllByRecursion}
use Rattle.lj_cert.specs.Good.{IsChecked}
use Rattle.lj_cert.proofs.auditing.hold_uploads.Given as goal

-- the uploads so far cover, and the arena holds them
abbrev pub invariant-loop-upload : goal.invariant-loop-upload
invariant-loop-upload g l = record {
  can : (goal.iterator-loop-upload g).can_next l.upload-iterator;
  finite : (goal.iterator-loop-upload g).is_finite l.upload-iterator;
  arena : l.arena ≡ record { frame = l.fn.frame; uploads = l.yielded; rules = []; spare = 0 };
  checked : AllByRecursion IsChecked l.yielded;
  place : l.place ≡ length l.yielded;
}
