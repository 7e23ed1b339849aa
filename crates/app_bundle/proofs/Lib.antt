-- The modules of lemmas of this crate.
mod RunsRead
mod StreamsRead
mod WrittenRuns
