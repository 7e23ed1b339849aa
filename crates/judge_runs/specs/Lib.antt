pub mod Wishes
pub mod Runs
pub mod Views
pub mod Tallies
