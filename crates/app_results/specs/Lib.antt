-- The modules of definitions of this crate.
pub mod RunPages
pub mod RunReports
pub mod ResultFiles
