-- What the clauses cite.
pub mod Sessions
