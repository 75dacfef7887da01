use Rattle.lj_table.specs.Settling.{IsLater, distance}
use Rattle.lj_table.proofs.table.Table.settle.Given as goal

abbrev pub invariant-loop-c : goal.invariant-loop-c
invariant-loop-c l = IsLater l.initial.self l.self

abbrev pub decreases-loop-c : goal.decreases-loop-c
decreases-loop-c l = distance l.self
