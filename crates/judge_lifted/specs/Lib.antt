-- The modules of definitions of this crate.
pub mod Lifted
pub mod Truths
