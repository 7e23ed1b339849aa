-- The modules of lemmas of this crate.
pub mod Rows
pub mod HistorySteps
pub mod Parts
pub mod Lookups
pub mod PastFacts
pub mod Cycles
pub mod OrderSteps
pub mod ClockRows
pub mod FitTraces
pub mod UndoFacts
