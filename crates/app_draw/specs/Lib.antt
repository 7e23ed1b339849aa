-- The modules of definitions of this crate.
pub mod Drawings
pub mod ShownDrawings
