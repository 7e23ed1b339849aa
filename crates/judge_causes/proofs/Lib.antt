-- The modules of lemmas of this crate.
pub mod ReducedKinds
pub mod SameTests
pub mod EnoughLaws
pub mod ReducedCuts
pub mod Listed
pub mod ReducedSteps
pub mod TrialLaws
pub mod Sublists
pub mod SearchSteps
pub mod AllReceipts
pub mod OwnOrders
pub mod Deciding
