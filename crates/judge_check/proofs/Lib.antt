-- The modules of lemmas of this crate.
pub mod Zips
pub mod PathNames
pub mod CheckedAnswers
pub mod FindingTexts
pub mod SessionFindings
