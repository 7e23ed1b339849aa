-- The modules of definitions of this crate.
pub mod GivenItems
pub mod Items
pub mod Steps
