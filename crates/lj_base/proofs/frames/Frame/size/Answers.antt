use Rattle.std.proofs.Common.{◌∙◌, sym, ap}
use Rattle.lj_base.specs.Frames.{Top}
use Rattle.lj_base.proofs.CellOrder.{size_is}
use Rattle.lj_base.proofs.frames.Frame.size.Goals as goal

pub returns-clause-cells : goal.returns-clause-cells
returns-clause-cells c =
    let whole = ap (λ t. let f : Top = record { top = t } in f) c.top.view_is ∙ c.self.view_is in
    rw (← whole) (c.up_to.ensures.up_to ∙ sym (size_is _))
