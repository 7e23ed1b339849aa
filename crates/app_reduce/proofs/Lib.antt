-- The modules of lemmas of this crate.
mod FilesReduced
mod RefusedDocuments
mod RunsRead
mod StreamsRead
