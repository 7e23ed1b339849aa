-- The modules of lemmas of this crate.
mod DrawingEnds
mod DrawingsRead
pub mod DrawingsShown
mod DueDrawn
mod FilesChosen
mod FilesDrawn
mod UnreadDrawings
mod WholeStreams
