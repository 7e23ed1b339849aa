-- The modules of lemmas of this crate.
pub mod EntryFacts
pub mod FreshTruths
pub mod KnownTruths
pub mod ReducedTruths
pub mod RunFacts
pub mod RunInputs
pub mod SharedAnswers
pub mod TrialOutcomes
pub mod TrialSteps
