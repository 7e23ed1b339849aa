pub mod Ways
pub mod Steps
