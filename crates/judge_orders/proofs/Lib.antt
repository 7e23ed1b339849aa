-- The modules of lemmas of this crate.
pub mod Places
pub mod Growing
pub mod Keeping
pub mod Ranking
pub mod Rows
pub mod Sameness
pub mod SeenRows
pub mod KeptParts
pub mod KeptFew
pub mod KeptOrders
pub mod RankRows
pub mod KeptRanks
pub mod SomeLists
pub mod PartRows
