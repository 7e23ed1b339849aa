-- The modules of lemmas of this crate.
pub mod Joins
pub mod Texts
pub mod Pieces
pub mod Places
pub mod Lists
pub mod LineWords
pub mod RefusalKinds
pub mod Stops
pub mod Whole
pub mod Exits
