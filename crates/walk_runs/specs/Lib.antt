-- What a level is as runs, and the laws of that.
pub mod Runs
pub mod Births
pub mod WholeLevels
pub mod Laws
pub mod Needs
pub mod Receivers
pub mod Kept
pub mod Points
pub mod KeptRuns
pub mod Levels
pub mod Collected
