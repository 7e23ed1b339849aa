-- The modules of definitions of this crate.
pub mod Merges
pub mod Steps
pub mod Views
