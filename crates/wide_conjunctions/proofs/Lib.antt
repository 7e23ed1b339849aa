-- The modules of lemmas of this crate.
pub mod BoxSteps
pub mod FirstIntervals
pub mod HoldSteps
pub mod LastIntervals
pub mod LevelAfter
pub mod RowSteps
pub mod WaysBack
pub mod Avoiding
pub mod MostBefore
pub mod Raised
pub mod CutsInOrder
