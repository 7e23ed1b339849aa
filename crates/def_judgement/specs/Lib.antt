pub mod Judgements
pub mod StreamResults
pub mod Headline
pub mod OneReport
pub mod LawfulReports
pub mod Findings
pub mod Writes
pub mod Examples
