use Rattle.std.proofs.Common.{◌∙◌, ◌-◌, ap, subst₂, sym}
use Rattle.lj_base.specs.Blocks.{Covers}
use Rattle.lj_base.specs.Cells.{Triple}
use Rattle.lj_cover.proofs.BlocksOfDesigns.{lowered_covers}
use Rattle.lj_cover.specs.Rules.{triple}
use Rattle.lj_cover.proofs.constructions.lower_design.Goals as goal

pub of-requires : goal.of-requires
of-requires c =
    let d = c.args.d.now in
    let limits = c.blocks-2.ensures.limits in
    let copied = c.in_ok-blocks.ensures.items_if_clones_equal (λ x y e. e) ∙ c.blocks-2.ensures.blocks in
    let new_is = c.lowered.ensures ∙ ap (λ (e : Triple). triple e.v e.k (e.t - 1)) c.cell.ensures in
    subst₂ Covers (sym copied) (sym new_is)
    (lowered_covers d.cell.v d.cell.k d.cell.t d.blocks c.requires limits.2 limits.3 c.blocks-2.ensures.covers)
