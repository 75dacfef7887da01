use Rattle.std.proofs.Common.{◌≡◌, ℕ, ◌+◌, slice_index, take}
use Rattle.lj_upload.specs.Tables.{times}
use Rattle.lj_upload.proofs.tables.add_points.Given as goal

abbrev pub invariant-loop-j : goal.invariant-loop-j
invariant-loop-j l = (q : ℕ) → slice_index l.row q + times
    (take l.from l.block) q ≡ slice_index l.initial.row q + times (take l.j l.block) q
