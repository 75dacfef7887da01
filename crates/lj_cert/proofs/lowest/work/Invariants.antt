use Rattle.std.proofs.Common.{◌≡◌, length}
use Rattle.lj_base.specs.Bounds.{at_cell}
use Rattle.lj_cert.specs.Lowest.{AreMarkedAtRest}
use Rattle.lj_cert.proofs.lowest.work.Given as goal

abbrev pub invariant-loop : goal.invariant-loop
invariant-loop l = record {
  len : length l.marks.items ≡ l.count;
  rest : AreMarkedAtRest l.arena.frame l.arena.uploads (at_cell l.arena.frame l.bounds) l.marks.items;
}
