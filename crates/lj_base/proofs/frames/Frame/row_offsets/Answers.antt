use Rattle.std.proofs.Common.{◌∙◌, ap, arith}
use Rattle.lj_base.specs.Frames.{before_k}
use Rattle.lj_base.proofs.OffsetTable.{offset_is}
use Rattle.lj_base.proofs.frames.Frame.row_offsets.Goals as goal

pub returns : goal.returns
returns c k inside =
    let table = c.offsets-table.ensures in
    offset_is _ c.self-inside.inside.0.0.t k table.rows (omega (arith, table.len)) inside
    ∙ ap (λ f. before_k f.top.t k) c.self-inside.view_is ∙ ap (λ f. before_k f.top.t k) c.self.view_is
