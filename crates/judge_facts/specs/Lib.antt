-- What the clauses cite.
pub mod Named
pub mod Values
pub mod Settings
pub mod Links
pub mod Runs
