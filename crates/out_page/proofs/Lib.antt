-- The modules of lemmas of this crate.
pub mod Listed
pub mod Parts
pub mod Numerals
pub mod Lacking
pub mod Seen
pub mod WrittenData
