-- What the clauses cite.
pub mod Lines
pub mod Rows
pub mod Shown
pub mod Texts
pub mod Window
