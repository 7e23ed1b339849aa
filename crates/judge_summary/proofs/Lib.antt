-- The modules of lemmas of this crate.
mod CountFacts
mod Sums
mod Members
mod Gathered
mod Lines
mod Merges
mod Groups
mod OneLine
