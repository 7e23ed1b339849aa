-- The modules of lemmas of this crate.
pub mod Opening
pub mod Standing
pub mod Tasks
pub mod Turning
