use Rattle.std.proofs.Common.{◌≡◌, ◌++◌, take}
use Rattle.lj_cover.specs.Instances.{rows_at}
use Rattle.lj_table.proofs.rows.push_rows.Given as goal

abbrev pub invariant-loop-i : goal.invariant-loop-i
invariant-loop-i l = l.ticket
    ≡ record l.initial.ticket { rows = l.initial.ticket.rows ++ rows_at (take l.i l.uploads) l.initial.ticket.cell }
