-- The modules of lemmas of this crate.
mod FieldViews
mod LineSteps
mod Parts
mod SameSteps
mod StatementFacts
mod VarSteps
pub mod StreamSteps
pub mod DocumentSteps
