-- The modules of lemmas of this crate.
pub mod Halves
pub mod Inputs
pub mod Outcomes
pub mod Places
pub mod PrefixesRead
pub mod RowSteps
pub mod SeatLists
pub mod SessionStreams
pub mod Sources
pub mod Turns
