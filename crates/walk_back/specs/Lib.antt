pub mod CompiledTests
pub mod Listed
pub mod Questions
pub mod Counts
pub mod Searches
pub mod Ways
pub mod Answers
pub mod Splits
