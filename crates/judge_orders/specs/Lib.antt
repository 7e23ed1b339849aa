-- The modules of definitions of this crate.
pub mod Lists
pub mod Growth
pub mod KeptEvents
pub mod Ranked
pub mod OrderViews
pub mod ProcessEvents
pub mod KnownRows
pub mod KeptRuns
pub mod RankTables
pub mod PartCounts
