use Rattle.std.proofs.Common.{◌∙◌, ap, sym, subst, arith, ◌-◌}
use Rattle.std.specs.List.{slice_get}
use Rattle.lj_base.specs.Frames.{InFrame, cells_of, up_to_v}
use Rattle.lj_base.proofs.CellOrder.{at_index}
use Rattle.lj_base.proofs.frames.Frame.cell.Goals as goal

pub returns-clause-within : goal.returns-clause-within
returns-clause-within c = subst (λ f. InFrame f c.row_at.result) c.self.view_is c.row_at.ensures.within

pub returns-clause-index : goal.returns-clause-index
returns-clause-index c =
    let top = c.self.inside.top in
    let v = ap (λ n. up_to_v top.k top.t (n - 1)) c.row_at.ensures.v in
    rw (← c.self.view_is) (omega (arith, v, c.row_at.ensures.place, c.layer_at-v.ensures.before))

pub returns-clause-place : goal.returns-clause-place
returns-clause-place c =
    ap (slice_get (cells_of c.args.self.now)) (sym (returns-clause-index c))
    ∙ at_index c.args.self.now c.row_at.result (returns-clause-within c)
