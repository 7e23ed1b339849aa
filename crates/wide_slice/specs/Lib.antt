-- The cuts at which each process is at a good count, and the steps from the least of them.
pub mod Values
pub mod Goods
pub mod Points
pub mod Slices
pub mod Parts
pub mod Steps
