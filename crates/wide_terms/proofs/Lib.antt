-- The modules of lemmas of this crate.
pub mod Naming
pub mod Locality
pub mod Building
pub mod Firsts
pub mod Allowed
pub mod Oring
pub mod Conjoining
pub mod Opposites
pub mod Sharing
pub mod Changing
pub mod RowSteps
pub mod TruthSteps
