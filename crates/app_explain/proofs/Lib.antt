-- The modules of lemmas of this crate.
mod Missing
mod NearestSteps
