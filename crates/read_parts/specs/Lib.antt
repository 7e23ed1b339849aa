-- The modules of definitions of this crate.
pub mod Cuts
pub mod Texts
