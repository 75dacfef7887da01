use Rattle.std.proofs.Common.{◌≡◌, None, replicate}
use Rattle.lj_core.proofs.tickets.empty_places.Given as goal

abbrev pub invariant-loop : goal.invariant-loop
invariant-loop l = l.tickets.items ≡ replicate l.counter None
