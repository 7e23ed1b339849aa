-- The modules of lemmas of this crate.
pub mod ListFacts
pub mod ViewFacts
pub mod RuleSteps
pub mod SeatFacts
