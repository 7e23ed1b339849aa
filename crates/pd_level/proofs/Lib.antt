-- The modules of lemmas of this crate.
pub mod Merges
pub mod Steps
pub mod Ranges
pub mod Levels
pub mod Kept
pub mod Unions
