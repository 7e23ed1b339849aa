pub mod Kept
pub mod Served
pub mod ServiceFaults
pub mod Watched
