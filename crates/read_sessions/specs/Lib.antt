-- The modules of definitions of this crate.
pub mod SessionLines
pub mod Views
