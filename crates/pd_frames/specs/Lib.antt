pub mod Views
pub mod Cuts
pub mod State
