-- The modules of definitions of this crate.
pub mod Answers
pub mod Batches
pub mod Entries
pub mod Rounds
pub mod Views
