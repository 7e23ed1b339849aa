-- The modules of definitions of this crate.
pub mod Rests
