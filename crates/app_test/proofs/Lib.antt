-- The modules of lemmas of this crate.
pub mod BundleFiles
mod OpenedStreams
mod OutcomesOfRead
mod JobResults
mod RunLines
pub mod WrittenTests
