pub mod Views
pub mod Pieces
pub mod Verdicts
pub mod Found
