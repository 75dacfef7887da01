use Rattle.std.proofs.Common.{◌<◌, length, arith}
use Rattle.lj_greedy.proofs.GapRanks.{raised_more}
use Rattle.lj_greedy.proofs.gains.raised_rank.Goals as goal

pub loop-i-preserved : goal.loop-i-preserved
loop-i-preserved c =
    let i = c.loop-i.i in
    let row = c.args.row.now in
    let inside : i < length row = omega arith in
    let more = raised_more i c.at.result row inside c.at.ensures in
    let value = c.binom-sum.ensures.value in
    let small = c.binom-sum.ensures.small in
    let before = c.loop-i.invariant.value in
    let bound = c.loop-i.invariant.small in
    record { value = omega (arith, more, value, before); small = omega (arith, small, bound) }
