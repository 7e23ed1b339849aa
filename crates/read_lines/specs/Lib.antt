-- The modules of definitions of this crate.
pub mod GivenLines
pub mod Steps
