use Rattle.std.proofs.Common.{◌≡◌, ◌∙◌, ◌-◌, ap, arith, take}
use Rattle.lj_base.specs.Cells.{Triple}
use Rattle.lj_base.proofs.Ascending.{AllBelow-from_Ascends, AllBelow-wider}
use Rattle.lj_cover.specs.BlockLists.{drop_blocks}
use Rattle.lj_cover.proofs.BlocksOfDesigns.{block_read, covering, made_covers, dropped_covers}
use Rattle.lj_cover.specs.Rules.{triple}
use Rattle.lj_cover.proofs.constructions.drop_design.Goals as goal

pub drop_last-requires-clause-below : goal.drop_last-requires-clause-below
drop_last-requires-clause-below c =
    let cell = c.cell.inside in
    let items = c.blocks-b-items.result.now in
    let same = c.cell.view_is ∙ c.cell-cell.ensures in
    let all = covering cell.v cell.k cell.t _ items _ same c.blocks-b-items.ensures.blocks
    c.blocks-b-items.ensures.covers in
    let block = block_read cell.v cell.k cell.t c.loop-b.b-index items c.b-item.result c.loop-b-test.true c.b-item.is
    all in
    AllBelow-wider cell.v _ c.b-item.result (omega (arith, c.from-v.ensures))
    (AllBelow-from_Ascends 0 cell.v c.b-item.result block.0)

pub of-requires : goal.of-requires
of-requires c =
    let d = c.args.d.now in
    let same = c.cell.view_is ∙ c.cell-cell.ensures in
    let point : c.from-v.result - 1 ≡ d.cell.v - 1 = omega (arith, c.from-v.ensures, ap (λ (e : Triple). e.v) same) in
    made_covers (drop_blocks (d.cell.v - 1)) (λ e. triple (e.v - 1) e.k e.t) d.cell c.cell-cell.result
    c.dropped.result c.loop-b.blocks.items c.blocks-b-items.result.now d.blocks c.loop-b.b-index c.loop-b-test.false
    (c.loop-b.invariant.items ∙ ap (λ p. drop_blocks p (take c.loop-b.b-index c.blocks-b-items.result.now)) point)
    c.blocks-b-items.ensures.blocks c.dropped.ensures c.cell-cell.ensures
    (dropped_covers d.cell.v d.cell.k d.cell.t d.blocks c.requires.room c.blocks-b-items.ensures.covers)
