-- The modules of lemmas of this crate.
pub mod Positions
pub mod WalkFacts
pub mod PlacementFacts
pub mod PlacementWalk
pub mod Digits
pub mod TooLarge
pub mod Runs
pub mod Symbols
pub mod LexedSoFar
pub mod Reading
pub mod Prefixes
pub mod WalkSteps
pub mod TermsRead
pub mod RulesRead
pub mod KnownNames
