-- The modules of definitions of this crate.
pub mod Streams
pub mod FirstDocuments
pub mod Inferred
pub mod DocumentParts
pub mod Statements
pub mod Views
