-- The modules of lemmas of this crate.
pub mod CutLines
pub mod RowLengths
pub mod Columns
pub mod Places
