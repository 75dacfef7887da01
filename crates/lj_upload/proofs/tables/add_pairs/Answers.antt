use Rattle.std.proofs.Common.{◌≡◌, ◌+◌, ◌*◌, ◌<◌, length, take, ap, ◌∙◌, arith}
use Rattle.std.proofs.lemmas.List.{take_all}
use Rattle.lj_base.proofs.Lists.{AllByRecursion-at}
use Rattle.lj_upload.specs.Tables.{entry, times}
use Rattle.lj_upload.proofs.Counts.{pairs_more, times-both, times_before}
use Rattle.lj_upload.proofs.tables.add_pairs.Goals as goal

pub add_points-requires-clause-room : goal.add_points-requires-clause-room
add_points-requires-clause-room c =
    let b = c.args.block.now in
    let x = c.at.result in
    λ q above.
    let none = times_before 99 b c.loop-i.i x c.len-i-end.ensures.ascends (omega arith) (omega arith) in
    let product : times (take c.loop-i.i b) x * times b q ≡ 0 = ap (λ n. n * times b q) none ∙ omega arith in
    omega (arith, c.loop-i.invariant x q (omega arith), c.requires.room x q (omega arith))

pub loop-i-preserved : goal.loop-i-preserved
loop-i-preserved c =
    let b = c.args.block.now in
    let inside : c.loop-i.i < length b = omega arith in
    let row_in : c.at.result < length c.loop-i.table = omega
    (arith, AllByRecursion-at (λ x. x < length c.args.table.now) 0 b c.loop-i.i inside c.requires.below) in
    λ p q order. pairs_more c.loop-i.table c.add_points.new.row b 99 c.loop-i.i c.at.result p q _
    c.len-i-end.ensures.ascends inside c.at.ensures row_in order
    c.add_points.ensures (c.loop-i.invariant p q order)

pub returns-clause-entries : goal.returns-clause-entries
returns-clause-entries c =
    let b = c.args.block.now in
    let all : take c.loop-i.i b ≡ b = take_all c.loop-i.i b (omega arith) in
    λ p q order. c.loop-i.invariant p q order
    ∙ ap (λ s. entry c.args.table.now p q + times s p * times b q) all
    ∙ ap (λ n. entry c.args.table.now p q + n) (times-both 99 b p q c.len-i-end.ensures.ascends)
