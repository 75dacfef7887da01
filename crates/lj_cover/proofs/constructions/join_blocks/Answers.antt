use Rattle.std.proofs.Common.{arith, refl}
use Rattle.lj_base.proofs.Ascending.{AllBelow-from_Ascends, AllBelow-wider}
use Rattle.lj_cover.proofs.BlocksOfDesigns.{block_read, covering}
use Rattle.lj_cover.proofs.constructions.join_blocks.Goals as goal

pub append_unions-requires-clause-below : goal.append_unions-requires-clause-below
append_unions-requires-clause-below c =
    let cell = c.args.a.now.cell in
    let items = c.blocks-first-items.result.now in
    let all = covering cell.v cell.k cell.t cell items _ refl c.blocks-first-items.ensures.blocks
    c.blocks-first-items.ensures.covers in
    let block = block_read cell.v cell.k cell.t c.loop-first.first-index items c.first-item.result
    c.loop-first-test.true c.first-item.is all in
    AllBelow-wider cell.v c.args.v1 c.first-item.result (omega arith)
    (AllBelow-from_Ascends 0 cell.v c.first-item.result block.0)
