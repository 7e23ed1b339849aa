-- The modules of definitions of this crate.
pub mod Results
pub mod ResultsSoFar
