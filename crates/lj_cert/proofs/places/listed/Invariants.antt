use Rattle.lj_cert.specs.Places.{HasEntries}
use Rattle.lj_cert.proofs.places.listed.Given as goal

abbrev pub invariant-loop-i : goal.invariant-loop-i
invariant-loop-i l = HasEntries l.fn.uploads l.i l.entries.items
