-- The modules of lemmas of this crate.
pub mod FitTraces
pub mod SessionNumbers
pub mod SessionReports
pub mod DocumentRefusals
pub mod EarlyRefusals
pub mod RefusedPlaces
pub mod SnapshotTexts
