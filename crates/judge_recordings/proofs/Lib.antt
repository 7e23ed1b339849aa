-- The modules of lemmas of this crate.
pub mod RunFacts
