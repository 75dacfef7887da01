use Rattle.lj_report.proofs.Listed.{in_order, members}
use Rattle.lj_report.proofs.laws.report_cells_law.Goals as goal

pub returns-clause-members : goal.returns-clause-members
returns-clause-members c = members

pub returns-clause-order : goal.returns-clause-order
returns-clause-order c = in_order
