-- Predicates that compare sums over several processes, and what their sums decide.
pub mod Literals
pub mod Values
pub mod Unnamed
pub mod Places
pub mod Splits
pub mod Excesses
pub mod SmallSteps
pub mod Verdicts
pub mod TermVerdicts
pub mod FirstCuts
