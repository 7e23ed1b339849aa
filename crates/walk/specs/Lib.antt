pub mod Rounds
pub mod Seen
pub mod Stages
pub mod Tasks
pub mod Turns
