-- The modules of lemmas of this crate.
mod StreamsRead
mod Unwritten
mod Written
