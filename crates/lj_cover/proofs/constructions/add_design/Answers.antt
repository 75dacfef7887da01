use Rattle.std.proofs.Common.{◌∙◌, ◌+◌}
use Rattle.lj_base.proofs.Ascending.{AllBelow-from_Ascends}
use Rattle.lj_cover.specs.BlockLists.{add_blocks}
use Rattle.lj_cover.proofs.BlocksOfDesigns.{added_covers, block_read, covering, made_covers}
use Rattle.lj_cover.specs.Rules.{triple}
use Rattle.lj_cover.proofs.constructions.add_design.Goals as goal

pub add_point-requires-clause-greatest : goal.add_point-requires-clause-greatest
add_point-requires-clause-greatest c =
    let cell = c.cell.inside in
    let items = c.blocks-b-items.result.now in
    let same = c.cell.view_is ∙ c.cell-cell.ensures in
    let all = covering cell.v cell.k cell.t _ items _ same c.blocks-b-items.ensures.blocks
    c.blocks-b-items.ensures.covers in
    let block = block_read cell.v cell.k cell.t c.loop-b.b-index items c.b-item.result c.loop-b-test.true c.b-item.is
    all in
    AllBelow-from_Ascends 0 cell.v c.b-item.result block.0

pub of-requires : goal.of-requires
of-requires c =
    let d = c.args.d.now in
    let limits = c.blocks-b-items.ensures.limits in
    made_covers (add_blocks d.cell.v) (λ e. triple (e.v + 1) (e.k + 1) e.t) d.cell c.cell-cell.result
    c.added.result c.loop-b.blocks.items c.blocks-b-items.result.now d.blocks c.loop-b.b-index c.loop-b-test.false
    c.loop-b.invariant.items c.blocks-b-items.ensures.blocks c.added.ensures c.cell-cell.ensures
    (added_covers d.cell.v d.cell.k d.cell.t d.blocks limits.2 limits.3 c.blocks-b-items.ensures.covers)
