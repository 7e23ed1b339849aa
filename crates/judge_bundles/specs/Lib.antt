-- The modules of definitions of this crate.
pub mod BundleRuns
pub mod Contents
