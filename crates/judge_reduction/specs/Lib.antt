-- The modules of definitions of this crate.
pub mod ReducedSessions
pub mod ReadSessions
