pub mod RunPlaces
pub mod Skips
pub mod Marks
pub mod Spots
pub mod SkippedRuns
