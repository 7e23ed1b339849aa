pub mod MoreCuts
pub mod Levels
