use Rattle.std.proofs.Common.{ap, sym, ◌∙◌}
use Rattle.std.proofs.lemmas.Slice.Eq.{slice_eq-Decides}
use Rattle.lj_cover.specs.Designs.{Covering}
use Rattle.lj_upload.proofs.Padding.{padded-Decides}
use Rattle.lj_session.proofs.offering.has_blocks.Goals as goal

pub returns : goal.returns
returns c =
    let same = slice_eq-Decides (λ a b. padded-Decides 25 a b) _ _ _ c.eq.ensures in
    let own = c.blocks-2.ensures.blocks ∙ ap (λ (d : Covering). d.blocks) c.design.ensures.design in
    (λ t. sym own ∙ same.0 t, λ e. same.1 (own ∙ e))
