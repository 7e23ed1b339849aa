-- The modules of lemmas of this crate.
mod PartCuts
mod TextLists
