-- The modules of lemmas of this crate.
pub mod DocumentPrefixes
pub mod FilesRead
pub mod FlushedTexts
pub mod NamedPredicates
pub mod UnreadFiles
pub mod WrittenSoFar
