use Rattle.std.proofs.Common.{sym, ap, ◌∙◌}
use Rattle.lj_base.specs.Cells.{Triple}
use Rattle.lj_session.proofs.Searching.{holds_them}
use Rattle.lj_session.proofs.offering.is_text_of.Goals as goal

pub returns-in-Ok : goal.returns-in-Ok
returns-in-Ok c =
    let v = c.from.ensures ∙ ap (λ (x : Triple). x.v) c.cell.view_is in
    let k = c.from-2.ensures ∙ ap (λ (x : Triple). x.k) c.cell.view_is in
    let slice = c.as_slice.ensures.value in
    holds_them c.args.text.now c.args.cell.v c.args.cell.k c.from.result c.from-2.result _ _ _ v k
    c.in-Ok.ensures.blocks c.in-Ok.ensures.complete
    (λ t. c.has_blocks.ensures.0 t ∙ slice, λ e. c.has_blocks.ensures.1 (e ∙ sym slice))
