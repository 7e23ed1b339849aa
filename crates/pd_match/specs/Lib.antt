pub mod Views
pub mod Noted
pub mod Progress
pub mod IdHash
