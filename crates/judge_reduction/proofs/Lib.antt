-- The modules of lemmas of this crate.
pub mod Prefixes
pub mod RenamedTerms
pub mod SameAnswers
pub mod Reading
pub mod Reducing
