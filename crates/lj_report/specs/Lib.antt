pub mod ReportCells
pub mod Reports
pub mod ReportValues
