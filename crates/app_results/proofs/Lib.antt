-- The modules of lemmas of this crate.
mod BundlePages
mod PagesOfRuns
mod ReportsAdded
mod TestsSoFar
