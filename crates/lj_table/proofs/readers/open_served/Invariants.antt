use Rattle.std.proofs.Common.{◌≡◌, ◌<◌}
use Rattle.lj_table.specs.Opening.{IsOpened}
use Rattle.lj_table.proofs.readers.open_served.Given as goal

abbrev pub invariant-loop-v : goal.invariant-loop-v
invariant-loop-v l = IsOpened l.frame (λ d. (d.t ≡ l.fn.c.t) × (d.v < l.v))
    l.initial.closed l.initial.busy l.closed l.busy
