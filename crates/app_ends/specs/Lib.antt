-- What the clauses cite.
pub mod Parts
pub mod Shown
