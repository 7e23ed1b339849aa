-- The modules of definitions of this crate.
pub mod Cutting
pub mod Steps
pub mod Moves
pub mod PartsRead
