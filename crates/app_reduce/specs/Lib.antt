-- The modules of definitions of this crate.
pub mod ReducedTexts
pub mod Reduced
pub mod Outcomes
pub mod Files
