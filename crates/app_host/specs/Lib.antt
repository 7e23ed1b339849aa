pub mod FileSources
pub mod Faults
pub mod Formats
pub mod Addresses
