-- The modules of lemmas of this crate.
pub mod Seeing
pub mod Closing
pub mod Coming
pub mod Counting
pub mod Deciding
pub mod SeenSets
