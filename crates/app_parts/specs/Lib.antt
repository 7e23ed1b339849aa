-- The modules of definitions of this crate.
pub mod Names
pub mod PartsKept
pub mod PartSources
