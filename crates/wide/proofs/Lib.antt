-- The modules of lemmas of this crate.
pub mod FirstOfParts
pub mod Deciding
pub mod SearchedBack
