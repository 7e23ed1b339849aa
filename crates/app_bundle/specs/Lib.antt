-- The modules of definitions of this crate.
pub mod Bundles
pub mod RunLines
