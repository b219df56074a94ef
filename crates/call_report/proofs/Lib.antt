pub mod ReportLines
pub mod Lines
pub mod Reporting
