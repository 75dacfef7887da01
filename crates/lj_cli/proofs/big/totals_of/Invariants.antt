use Rattle.std.proofs.Common.{◌≡◌, ◌+◌, ◌*◌, ◌≤◌, length}
use Rattle.std.specs.List.{AllByRecursion, sum_by}
use Rattle.lj_base.specs.Bounds.{at_cell}
use Rattle.lj_base.specs.declared.limits.TheConstants.{COST_LIMIT}
use Rattle.lj_report.specs.ReportCells.{IsListed, report_cells}
use Rattle.lj_cli.proofs.big.totals_of.Given as goal

abbrev pub invariant-loop-cell : goal.invariant-loop-cell
invariant-loop-cell l =
    let left = l.cell-iterator in
    let f = l.table.arena.frame in
    record {
      counted : l.cells + length left ≡ length (report_cells f);
      added : l.sum + sum_by (at_cell f l.table.bounds) left ≡ sum_by (at_cell f l.table.bounds) (report_cells f);
      listed : AllByRecursion (IsListed f) left;
      small : l.sum ≤ l.cells * COST_LIMIT;
    }
