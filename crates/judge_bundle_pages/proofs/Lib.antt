-- The modules of lemmas of this crate.
mod StreamFiles
mod WholeParts
