pub mod Words
pub mod Keys
pub mod Pairs
pub mod Neighbors
