pub mod Faults
pub mod Statements
pub mod Views
pub mod Progress
pub mod Reads
pub mod Parts
pub mod Plain
