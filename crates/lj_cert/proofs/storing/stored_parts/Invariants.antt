use Rattle.std.proofs.Common.{◌≡◌, length, take}
use Rattle.std.specs.List.{AllZip}
use Rattle.lj_cert.specs.Storing.{IsStoredPart}
use Rattle.lj_cert.proofs.storing.stored_parts.Given as goal

abbrev pub invariant-loop-i : goal.invariant-loop-i
invariant-loop-i l = record {
  places : length l.stored ≡ 9;
  done : AllZip IsStoredPart (take l.i l.parts) (take l.i l.stored);
}
