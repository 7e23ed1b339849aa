pub mod Limits
pub mod ClaimRule
pub mod Claims
pub mod Parts
pub mod Laws
