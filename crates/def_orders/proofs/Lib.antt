-- The modules of lemmas of this crate.
pub mod Flat
pub mod Ranks
pub mod Alike
pub mod KeptImages
pub mod SameValues
pub mod OneOrder
pub mod OrdersAlike
pub mod MatchedAnswers
pub mod EqualOrders
pub mod EqualParts
pub mod SingleOrder
pub mod Onward
pub mod Tried
pub mod TriedParts
