-- The modules of lemmas of this crate.
mod Parts
mod Slices
