-- Recordings of any length.
pub mod Recordings
pub mod Reductions
pub mod Laws
