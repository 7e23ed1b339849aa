-- The modules of lemmas of this crate.
pub mod Going
pub mod Avoidance
pub mod Reaching
pub mod LevelLists
pub mod Searching
pub mod Keeping
pub mod Ending
pub mod Roots
pub mod FreeProcesses
pub mod FreeWords
