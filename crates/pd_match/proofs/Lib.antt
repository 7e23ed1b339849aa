-- The modules of lemmas of this crate.
mod Places
mod Ids
mod Marks
mod Reports
pub mod ReceivedSends
mod Traces
mod Pairs
mod Senders
