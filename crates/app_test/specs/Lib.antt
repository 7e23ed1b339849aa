-- The modules of definitions of this crate.
pub mod Tests
pub mod ReadRuns
pub mod TestedRuns
pub mod Jobs
