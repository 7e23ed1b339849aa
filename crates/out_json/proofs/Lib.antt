-- The modules of lemmas of this crate.
pub mod Listed
pub mod Counts
pub mod Put
pub mod NextEvents
pub mod Floats
pub mod Quotes
pub mod LastField
pub mod Utf8Reports
pub mod PathRuns
