-- The modules of lemmas of this crate.
mod BundleContents
mod BundleNames
mod BundleTrials
