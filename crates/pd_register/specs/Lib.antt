pub mod Views
pub mod LockRule
pub mod Seats
