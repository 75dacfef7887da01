use Rattle.std.proofs.Common.{◌≡◌, ℕ, ◌+◌, ◌*◌, ◌≤◌, take}
use Rattle.lj_upload.specs.Tables.{entry, times}
use Rattle.lj_upload.proofs.tables.add_pairs.Given as goal

abbrev pub invariant-loop-i : goal.invariant-loop-i
invariant-loop-i l = (p q : ℕ) → p ≤ q → entry l.table p q ≡ entry l.initial.table p q + times
    (take l.i l.block) p * times l.block q
