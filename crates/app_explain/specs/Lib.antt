-- What the clauses cite.
pub mod Peers
pub mod Fields
pub mod Answers
pub mod Nearest
pub mod FileKinds
