-- The modules of lemmas of this crate.
pub mod Given
pub mod LineLengths
pub mod Progress
pub mod Refused
pub mod Rounds
pub mod TextResults
