-- The modules of definitions of this crate.
pub mod SharedReports
pub mod Sharing
pub mod Trials
