-- The modules of lemmas of this crate.
pub mod ExplorationEnds
mod FilesAgain
mod NotesRead
mod WishedNames
