-- The modules of lemmas of this crate.
pub mod RuleSteps
pub mod PartFacts
pub mod MarkFacts
