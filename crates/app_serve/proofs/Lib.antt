-- The modules of lemmas of this crate.
mod Accepted
pub mod ServedTexts
mod Unfiled
mod UnreadServices
