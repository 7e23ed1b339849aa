-- The modules of lemmas of this crate.
pub mod Wholes
pub mod TermMeanings
pub mod Tried
pub mod SureHolds
pub mod AroundEvents
pub mod GateLaws
