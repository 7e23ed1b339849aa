-- The modules of lemmas of this crate.
pub mod Zips
pub mod RunTruths
