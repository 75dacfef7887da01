use Rattle.lj_cert.proofs.LowCells.{offered_more}
use Rattle.lj_cert.proofs.lowest.offered_cost.Goals as goal

pub loop-up-preserved : goal.loop-up-preserved
loop-up-preserved c =
    let least = c.lesser-least.ensures in
    offered_more c.args.uploads.now c.loop-up.up-index c.up-item.result c.args.cell c.loop-up.least c.offer.result
    c.lesser-least.result c.loop-up-test.true c.up-item.is c.loop-up.invariant c.offer.ensures least.one least.first
    least.second
