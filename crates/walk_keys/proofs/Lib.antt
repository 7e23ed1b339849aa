-- The modules of lemmas of this crate.
pub mod Truths
pub mod Keys
pub mod PairNumbers
pub mod Written
