-- What bytes mean.
pub mod Lists
pub mod Limits
pub mod Lines
pub mod Names
pub mod Histories
pub mod Records
pub mod Readings
pub mod Tokens
pub mod Grammar
pub mod PredicateTexts
pub mod Documents
pub mod Versions
pub mod Sessions
pub mod Reports
pub mod RefusalWords
pub mod OtherTexts
pub mod Bundles
pub mod Laws
-- Tools of proofs.
pub mod RefusalKinds
pub mod PrefixWalk
pub mod OpenerStack
pub mod LineLaws
pub mod ReadingLaws
pub mod HistoryLaws
