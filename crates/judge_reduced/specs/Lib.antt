-- The modules of definitions of this crate.
pub mod SettingLists
pub mod Plans
pub mod Planned
pub mod Reductions
pub mod Bounds
pub mod Laws
