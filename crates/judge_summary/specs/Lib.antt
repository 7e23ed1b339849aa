-- The modules of definitions of this crate.
pub mod Counts
pub mod Summaries
pub mod Views
pub mod Conclusions
pub mod SummaryLaws
