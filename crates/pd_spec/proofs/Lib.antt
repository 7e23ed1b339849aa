-- The modules of lemmas of this crate.
pub mod AskedItems
pub mod Depths
pub mod Mapped
pub mod MemberViews
pub mod Distinct
pub mod DocumentFacts
pub mod Each
pub mod Faultless
pub mod InitialValues
pub mod OutlineViews
pub mod OwnNames
pub mod PredicateFaults
pub mod Rows
pub mod TwiceLemmas
