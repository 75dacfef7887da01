use Rattle.std.proofs.Common.{◌<◌, ◌∙◌, ap, sym, subst, arith}
use Rattle.std.specs.List.{slice_get}
use Rattle.lj_base.specs.Frames.{Top, cells_of, size_of}
use Rattle.lj_base.proofs.CellOrder.{at_index, index_below}
use Rattle.lj_base.proofs.frames.Frame.index.Goals as goal

pub returns-clause-index : goal.returns-clause-index
returns-clause-index c =
    let whole = ap (λ t. let f : Top = record { top = t } in f) c.top.view_is ∙ c.self.view_is in
    rw (← whole, ← c.c.view_is) (omega (arith, c.up_to.ensures.up_to, c.before-2.ensures.before))

pub returns-clause-within : goal.returns-clause-within
returns-clause-within c =
    subst (λ n. n < size_of c.args.self.now) (sym (returns-clause-index c))
    (index_below c.args.self.now c.args.c c.requires)

pub returns-clause-place : goal.returns-clause-place
returns-clause-place c =
    ap (slice_get (cells_of c.args.self.now)) (returns-clause-index c) ∙ at_index c.args.self.now c.args.c c.requires
