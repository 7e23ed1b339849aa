pub mod Views
pub mod Steps
pub mod Reading
pub mod Pairs
pub mod Cuts
pub mod Remaining
