-- The modules of definitions of this crate.
pub mod BundlePages
pub mod Parts
