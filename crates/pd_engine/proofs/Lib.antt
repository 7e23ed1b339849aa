-- The modules of lemmas of this crate.
pub mod AnsweredTraces
pub mod SessionReports
pub mod ReportTexts
pub mod PrintedPaths
pub mod Zips
pub mod WalkAnswers
pub mod BundleReads
pub mod PathNames
pub mod LateAnswers
