-- The modules of lemmas of this crate.
mod ReadingSteps
