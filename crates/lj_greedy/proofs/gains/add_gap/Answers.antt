use Rattle.std.proofs.Common.{arith}
use Rattle.lj_greedy.proofs.GapRanks.{gap_added}
use Rattle.lj_greedy.proofs.gains.add_gap.Goals as goal

pub returns : goal.returns
returns c =
    gap_added c.args.counts.now.counts c.args.from c.loop-p.p c.args.to c.args.size c.args.base c.args.gains.now
    c.loop-p.gains (omega (arith, c.requires.order)) c.loop-p.invariant
