use Rattle.std.proofs.Common.{◌≡◌, length, take}
use Rattle.std.specs.List.{AllByRecursion}
use Rattle.lj_cert.specs.Storing.{IsStoredChild}
use Rattle.lj_cert.proofs.storing.stored_children.Given as goal

abbrev pub invariant-loop-child : goal.invariant-loop-child
invariant-loop-child l = record {
  places : length l.stored ≡ 26;
  done : AllByRecursion (IsStoredChild l.stored) (take l.child-index l.children);
}
