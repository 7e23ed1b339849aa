-- The modules of lemmas of this crate.
pub mod Runs
pub mod Numbers
pub mod Columns
pub mod Sums
pub mod Rows
pub mod Comparisons
pub mod Differences
pub mod Compiles
pub mod Conjunctions
pub mod Chains
pub mod Ascents
pub mod Sets
