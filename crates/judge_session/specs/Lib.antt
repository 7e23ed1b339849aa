-- The modules of definitions of this crate.
pub mod Inquiries
pub mod Refusals
pub mod Unanswered
pub mod Computations
pub mod SessionReports
pub mod Ends
pub mod Faults
