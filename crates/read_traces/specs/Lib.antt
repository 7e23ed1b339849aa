pub mod NumberSlots
pub mod Columns
pub mod Views
pub mod SessionTraces
pub mod InitialRows
