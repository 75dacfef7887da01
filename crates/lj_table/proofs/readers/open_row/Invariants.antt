use Rattle.std.proofs.Common.{◌≡◌, ◌<◌}
use Rattle.lj_table.specs.Opening.{IsOpened}
use Rattle.lj_table.proofs.readers.open_row.Given as goal

abbrev pub invariant-loop-k : goal.invariant-loop-k
invariant-loop-k l = IsOpened l.frame (λ d. (d.v ≡ l.v) × (d.t ≡ l.t) × (d.k < l.k))
    l.initial.closed l.initial.busy l.closed l.busy
