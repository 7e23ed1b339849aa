-- The modules of lemmas of this crate.
pub mod FirstLines
mod SmallStreams
