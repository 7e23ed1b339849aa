-- The modules of lemmas of this crate.
mod Tests
mod Causes
