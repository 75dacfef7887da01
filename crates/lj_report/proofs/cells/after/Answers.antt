use Rattle.std.proofs.Common.{◌≡◌, ◌+◌, ◌<◌, ap, ◌∙◌, arith}
use Rattle.lj_base.specs.Cells.{Triple}
use Rattle.lj_base.specs.Frames.{Top}
use Rattle.lj_report.proofs.Walking.{next_k}
use Rattle.lj_report.proofs.cells.after.Goals as goal

pub returns-then-more_k-clause-rest : goal.returns-then-more_k-clause-rest
returns-then-more_k-clause-rest c =
    let k = c.c.inside.k in
    let whole = ap (λ top. let f : Top = record { top = top } in f) c.top.view_is ∙ c.frame.view_is in
    let last : c.c.inside.v ≡ c.top.inside.v =
    omega (arith, ap (λ (f : Top). f.top.v) whole, ap (λ (x : Triple). x.v) c.c.view_is, c.requires.inside.v) in
    let more : k < c.top.inside.k = grind arith in
    rw (← whole, ← c.c.view_is)
    (next_k _ c.c.inside.t k c.c.inside.v (k + 1) (k + 2) last more (omega arith) (omega arith))
