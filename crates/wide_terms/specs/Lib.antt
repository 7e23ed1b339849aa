-- Which predicates have terms, what terms mean, and what they decide.
pub mod Locals
pub mod Truths
pub mod Rows
pub mod KnownRows
pub mod Changes
pub mod FirstCuts
pub mod Ors
pub mod Conjunctions
pub mod Passages
