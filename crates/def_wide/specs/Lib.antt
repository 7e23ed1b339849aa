-- What is decided at any width.
pub mod Parts
pub mod Terms
pub mod Heights
pub mod Sums
pub mod DeadEnds
pub mod Gates
pub mod Tried
pub mod Decided
pub mod Laws
pub mod Examples
