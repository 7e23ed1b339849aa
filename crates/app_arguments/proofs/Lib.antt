-- The modules of lemmas of this crate.
pub mod Builders
pub mod Conditions
pub mod Flags
pub mod Numbers
pub mod Parsed
pub mod Requests
pub mod Scopes
mod Lists
mod Parts
