pub mod JsonReports
pub mod Known
pub mod ReportLaws
pub mod Utf8Names
