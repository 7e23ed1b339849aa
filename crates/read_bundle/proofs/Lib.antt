-- The modules of lemmas of this crate.
pub mod Cuts
pub mod Moving
pub mod PartSteps
pub mod StreamParts
