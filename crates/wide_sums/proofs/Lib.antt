-- The modules of lemmas of this crate.
pub mod Reading
pub mod Making
pub mod Below
pub mod Adding
pub mod Unnamed
pub mod Placing
pub mod Splitting
pub mod ByExcess
pub mod SmallSteps
pub mod NamedBelow
pub mod TermLaws
pub mod TermDecisions
pub mod Verdicts
pub mod LowestOf
pub mod TermCuts
pub mod FirstByHeight
