use Rattle.std.proofs.Common.{◌+◌, sym, ap, ◌∙◌, arith}
use Rattle.lj_base.specs.Frames.{Top}
use Rattle.lj_report.proofs.Listed.{all_listed, few_listed}
use Rattle.lj_report.proofs.Walking.{cells_from_t-first}
use Rattle.lj_report.proofs.cells.first_from.Goals as goal

pub returns-then-t-top-3-clause-rest : goal.returns-then-t-top-3-clause-rest
returns-then-t-top-3-clause-rest c =
    let t = c.args.t in
    let whole = ap (λ top. let f : Top = record { top = top } in f) c.top.view_is ∙ c.frame.view_is in
    rw (← whole)
    (sym (cells_from_t-first _ t (t + 1) (t + 2) c.if-t-top.true (omega arith) (omega arith) (omega arith)))

pub returns-then-t-top-3-clause-all : goal.returns-then-t-top-3-clause-all
returns-then-t-top-3-clause-all c =
    let whole = ap (λ top. let f : Top = record { top = top } in f) c.top.view_is ∙ c.frame.view_is in
    rw (← whole) (all_listed _ c.args.t c.top.invariant c.requires.some)

pub returns-then-t-top-3-clause-few : goal.returns-then-t-top-3-clause-few
returns-then-t-top-3-clause-few c =
    let whole = ap (λ top. let f : Top = record { top = top } in f) c.top.view_is ∙ c.frame.view_is in
    rw (← whole) (few_listed _ c.args.t c.top.invariant c.requires.some)
