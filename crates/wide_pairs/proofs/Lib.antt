-- The modules of lemmas of this crate.
pub mod Taken
pub mod Bands
pub mod FirstPairs
pub mod AvoidingPairs
pub mod Filled
pub mod Carries
pub mod GoodWords
pub mod RowPairs
pub mod MostCuts
pub mod AvoidingLevels
pub mod Passing
pub mod Naming
pub mod Values
pub mod Numbers
pub mod Differences
pub mod Deciding
pub mod Bits
