-- The modules of lemmas of this crate.
pub mod CountKeys
pub mod SumSteps
pub mod StepSets
pub mod InOrder
pub mod LeastKeys
pub mod Lowered
pub mod LowestCuts
