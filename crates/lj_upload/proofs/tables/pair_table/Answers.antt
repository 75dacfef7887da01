use Rattle.std.proofs.Common.{◌≡◌, length, sym, ap, ◌∙◌, subst}
use Rattle.std.proofs.lemmas.List.{length-replicate}
use Rattle.lj_base.specs.Blocks.{AllBelow, AreBlocks, IsBlock}
use Rattle.lj_base.specs.Cells.{Triple}
use Rattle.lj_base.proofs.Ascending.{AllBelow-from_Ascends}
use Rattle.lj_base.proofs.Lists.{AllByRecursion-at}
use Rattle.lj_upload.specs.Tables.{entry}
use Rattle.lj_upload.proofs.Counts.{entry-zeros}
use Rattle.lj_upload.proofs.tables.pair_table.Goals as goal

pub loop-block-init : goal.loop-block-init
loop-block-init c =
    let zeros = c.in_ok-table.ensures in
    let same = c.cell.view_is ∙ c.cell-cell.ensures in
    record {
      rows = ap length zeros ∙ length-replicate c.cell.inside.v _ ∙ ap (λ (x : Triple). x.v) same;
      each = λ p q order. ap (λ t. entry t p q) zeros ∙ entry-zeros c.cell.inside.v 99 p q;
    }

pub add_pairs-requires-clause-below : goal.add_pairs-requires-clause-below
add_pairs-requires-clause-below c =
    let cell = c.args.design.now.cell in
    let items = c.blocks-block-items.result.now in
    let b = c.block-item.result in
    let blocks = subst (AreBlocks cell.v cell.k)
    (sym c.blocks-block-items.ensures.blocks) c.blocks-block-items.ensures.covers.blocks in
    let here = AllByRecursion-at (IsBlock cell.v cell.k) b items c.loop-block.block-index c.loop-block-test.true
    blocks in
    let block : IsBlock cell.v cell.k b = subst (IsBlock cell.v cell.k) (sym c.block-item.is) here in
    let wide : cell.v ≡ length c.deref_mut.result.now = sym
    (ap length c.deref_mut.ensures.value ∙ c.loop-block.invariant.rows) in
    subst (λ v. AllBelow v b) wide (AllBelow-from_Ascends 0 cell.v b block.0)
