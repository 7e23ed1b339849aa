-- The modules of lemmas of this crate.
mod SoFar
mod Left
