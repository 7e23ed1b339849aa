-- The modules of definitions of this crate.
pub mod SessionReports
pub mod Ends
pub mod Judging
pub mod Paths
pub mod Early
