-- What the search back comes to, and what is known on the way.
pub mod Lists
pub mod Names
pub mod Goals
pub mod Searches
pub mod Ways
