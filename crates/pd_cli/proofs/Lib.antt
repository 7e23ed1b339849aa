-- The modules of lemmas of this crate.
mod BundleEnds
mod Explanations
mod OneRule
mod ParserEnds
