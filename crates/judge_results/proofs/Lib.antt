-- The modules of lemmas of this crate.
mod Joined
mod Parts
mod RunsAdded
pub mod Whole
mod Words
