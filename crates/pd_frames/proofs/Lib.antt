-- The modules of lemmas of this crate.
pub mod Feeds
pub mod Steps
pub mod Ends
