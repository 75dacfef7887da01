use Rattle.lj_build.proofs.Reporting.{OneEach, closed_report, one_report}
use Rattle.lj_build.proofs.Sections.{accepted_all}
use Rattle.lj_build.proofs.laws.one_report_law.Goals as goal

pub returns : goal.returns
returns c =
    let each : OneEach = record {
      places = c.cells_law.ensures.places;
      count = c.cells_law.ensures.count;
      one = c.least_is_one.ensures.one;
    } in record { text = one_report each; accepted = accepted_all; closed = closed_report }
