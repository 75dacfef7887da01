use Rattle.std.proofs.Common.{◌≡◌, ◌≤◌, length, get_or, take, arith}
use Rattle.std.proofs.lemmas.List.{length-take-le}
use Rattle.std.proofs.lemmas.List.Sums.{count_by-le-length}
use Rattle.lj_base.proofs.Ascending.{Ascends-get_or_below, Ascends-get_or_le}
use Rattle.lj_upload.specs.Tables.{times}
use Rattle.lj_upload.proofs.Counts.{row_more}
use Rattle.lj_upload.proofs.tables.add_points.Goals as goal

pub bounds-row-at : goal.bounds-row-at
bounds-row-at c =
    let low = Ascends-get_or_below 0 99 c.args.block.now c.loop-j.j c.len-j-end.ensures.ascends (omega arith) in
    omega arith

pub overflow_add-row : goal.overflow_add-row
overflow_add-row c =
    let b = c.args.block.now in
    let q = c.at.result in
    let above : get_or b c.args.from 0 ≤ q = omega (
      arith,
      Ascends-get_or_le 0 99 b c.args.from c.loop-j.j c.len-j-end.ensures.ascends (omega arith)
          (omega arith),
    ) in
    let few : times (take c.loop-j.j b) q ≤ length (take c.loop-j.j b) = count_by-le-length _ (take c.loop-j.j b) in
    let shorter : length (take c.loop-j.j b) ≡ c.loop-j.j = length-take-le c.loop-j.j b (omega arith) in
    omega (arith, c.loop-j.invariant q, c.requires.room q above)

pub bounds-row-at-in-loop-j : goal.bounds-row-at-in-loop-j
bounds-row-at-in-loop-j c =
    let low = Ascends-get_or_below 0 99 c.args.block.now c.loop-j.j c.len-j-end.ensures.ascends (omega arith) in
    omega arith

pub loop-j-preserved : goal.loop-j-preserved
loop-j-preserved c =
    let low = Ascends-get_or_below 0 99 c.args.block.now c.loop-j.j c.len-j-end.ensures.ascends (omega arith) in
    λ q. row_more c.loop-j.row c.args.block.now c.loop-j.j c.at.result q _ _ (omega arith) c.at.ensures (omega arith)
    (c.loop-j.invariant q)
