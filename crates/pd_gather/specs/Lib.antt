pub mod Sources
pub mod Views
pub mod Taken
pub mod Rows
pub mod ReadStreams
pub mod ReadSoFar
pub mod Gathering
