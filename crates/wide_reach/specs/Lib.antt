-- The cuts of a slice at which a sum reaches a total, and the lowest of them.
pub mod Keys
pub mod Bounds
pub mod Lowering
pub mod Sums
pub mod Reaches
