-- The modules of lemmas of this crate.
mod EventLines
mod Named
mod StreamFiles
pub mod SessionPages
pub mod Written
