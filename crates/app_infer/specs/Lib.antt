-- The modules of definitions of this crate.
pub mod Inferences
pub mod Outcomes
