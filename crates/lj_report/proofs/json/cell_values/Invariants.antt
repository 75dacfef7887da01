use Rattle.std.proofs.Common.{◌≡◌, ◌++◌, map}
use Rattle.std.specs.List.{AllByRecursion}
use Rattle.serde_json.specs.View.{view}
use Rattle.lj_base.specs.Bounds.{at_cell}
use Rattle.lj_report.specs.ReportCells.{IsListed}
use Rattle.lj_report.specs.ReportValues.{cell_value, cell_values}
use Rattle.lj_report.proofs.json.cell_values.Given as goal

abbrev pub invariant-loop-cell : goal.invariant-loop-cell
invariant-loop-cell l =
    let left = l.cell-iterator in
    record {
      made : map view l.values.items ++ map (λ c. cell_value c (at_cell l.frame l.bounds c)) left ≡ cell_values l.frame
          l.bounds;
      listed : AllByRecursion (IsListed l.frame) left;
    }
