pub mod Steps
pub mod Closed
pub mod Rows
pub mod Flows
pub mod Searches
pub mod Parts
