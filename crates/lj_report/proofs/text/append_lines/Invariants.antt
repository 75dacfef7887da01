use Rattle.std.proofs.Common.{◌≡◌, ◌++◌, map}
use Rattle.std.specs.List.{AllByRecursion}
use Rattle.lj_text.specs.Fields.{Extends}
use Rattle.lj_text.specs.Lines.{with_feeds}
use Rattle.lj_base.specs.Bounds.{at_cell}
use Rattle.lj_report.specs.ReportCells.{IsListed}
use Rattle.lj_report.specs.Reports.{report_line, report_text}
use Rattle.lj_report.proofs.text.append_lines.Given as goal

abbrev pub invariant-loop-cell : goal.invariant-loop-cell
invariant-loop-cell l =
    let left = l.cell-iterator in
    record {
      written : l.out.items ++ with_feeds (map (λ c. report_line c (at_cell l.frame l.bounds c)) left)
          ≡ l.fn.out.items ++ report_text l.frame l.bounds;
      listed : AllByRecursion (IsListed l.frame) left;
      kept : Extends l.fn.out.items l.out.items;
    }
