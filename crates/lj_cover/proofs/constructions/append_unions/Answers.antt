use Rattle.std.proofs.Common.{◌-◌, arith, refl}
use Rattle.lj_base.proofs.Ascending.{AllBelow-from_Ascends, AllBelow-wider}
use Rattle.lj_cover.proofs.BlocksOfDesigns.{block_read, covering}
use Rattle.lj_cover.proofs.constructions.append_unions.Goals as goal

pub unite-requires-clause-second : goal.unite-requires-clause-second
unite-requires-clause-second c =
    let cell = c.args.b.now.cell in
    let items = c.blocks-second-items.result.now in
    let all = covering cell.v cell.k cell.t cell items _ refl c.blocks-second-items.ensures.blocks
    c.blocks-second-items.ensures.covers in
    let block = block_read cell.v cell.k cell.t c.loop-second.second-index items c.second-item.result
    c.loop-second-test.true c.second-item.is all in
    AllBelow-wider cell.v (99 - c.args.v1) c.second-item.result (omega arith)
    (AllBelow-from_Ascends 0 cell.v c.second-item.result block.0)
