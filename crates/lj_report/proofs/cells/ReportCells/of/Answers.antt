use Rattle.std.proofs.Common.{◌*◌, ◌≤◌, length, sym, subst}
use Rattle.std.specs.List.{AllByRecursion}
use Rattle.lj_report.specs.ReportCells.{IsListed}
use Rattle.lj_report.proofs.cells.ReportCells.of.Goals as goal

pub returns-clause-listed : goal.returns-clause-listed
returns-clause-listed c =
    subst (AllByRecursion (IsListed c.args.frame)) (sym c.first_from.ensures.rest) c.first_from.ensures.all

pub returns-clause-few : goal.returns-clause-few
returns-clause-few c =
    subst (λ cells. length cells ≤ 8 * (25 * 99)) (sym c.first_from.ensures.rest) c.first_from.ensures.few
