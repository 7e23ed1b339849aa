-- The modules of lemmas of this crate.
mod DividerLines
mod ItemSteps
mod KeptParts
pub mod WholeLines
