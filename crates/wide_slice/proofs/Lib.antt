-- The modules of lemmas of this crate.
pub mod Lists
pub mod Goods
pub mod Rows
pub mod Parts
pub mod Sums
pub mod Joins
pub mod Made
pub mod Closed
