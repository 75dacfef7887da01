use Rattle.std.proofs.Common.{◌≡◌}
use Rattle.lj_table.specs.Opening.{IsOpenAfter}
use Rattle.lj_table.proofs.Openings.{IsWalk}
use Rattle.lj_table.proofs.readers.open_all_readers.Given as goal

abbrev pub invariant-loop-d : goal.invariant-loop-d
invariant-loop-d l = record {
  next : (goal.iterator-loop-d).can_next l.readers;
  finite : (goal.iterator-loop-d).is_finite l.readers;
  walk : IsWalk l.fn.frame l.fn.c (λ d. Unit {0}) l.readers l.initial.closed l.initial.busy l.closed l.busy;
  places : l.places.frame ≡ l.fn.frame;
  last : IsOpenAfter l.last l.initial.closed;
}
