-- What the clauses cite.
pub mod Enough
pub mod Causes
pub mod Reduced
pub mod Asked
pub mod Receipts
pub mod Search
pub mod Own
