-- The modules of lemmas of this crate.
mod ColumnFacts
mod SettingFacts
mod SlotFacts
