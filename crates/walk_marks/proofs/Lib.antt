-- The modules of lemmas of this crate.
pub mod Windows
pub mod ParentBits
pub mod RunKeys
pub mod AvoidingBits
pub mod PushedWords
pub mod MarkCounts
pub mod FirstSatisfying
pub mod MarkedKeys
pub mod ListedCuts
pub mod ByThreads
pub mod SkippedWords
