use Rattle.std.proofs.Common.{◌≤◌, length, sym, subst, arith}
use Rattle.lj_report.proofs.laws.optimal_law.Goals as goal

pub returns : goal.returns
returns c = λ f cell bound bs listed least covers.
    subst (λ n. n ≤ length bs) (sym least)
    (c.schonheim_bounds.ensures.covering cell.v cell.k cell.t bs (omega (arith, listed.greater_k))
    (omega (arith, listed.greater_v)) covers)
