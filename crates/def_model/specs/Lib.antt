-- The model.
pub mod Events
pub mod Messages
pub mod Order
pub mod Cuts
pub mod Lattice
pub mod Predicates
pub mod Observations
pub mod Answers
pub mod Decided
pub mod Laws
pub mod Examples
-- Tools of proofs.
pub mod Walks
pub mod Paths
