-- The modules of lemmas of this crate.
pub mod SessionFindings
pub mod SessionDrawings
pub mod StatedCycles
pub mod WrittenPictures
pub mod LaneNames
pub mod GoodEvidence
pub mod Pictured
pub mod CycleNames
pub mod FewProcesses
pub mod TextsShow
