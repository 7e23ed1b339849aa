-- The modules of lemmas of this crate.
pub mod Escaping
pub mod Parts
