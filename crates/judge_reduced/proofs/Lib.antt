-- The modules of lemmas of this crate.
pub mod MessageIds
pub mod Listed
pub mod Messages
pub mod LawfulMessages
pub mod Seen
pub mod Values
pub mod Made
pub mod Appended
pub mod Planning
pub mod Imaging
pub mod SettingSteps
pub mod ReceiptSteps
pub mod ImageSteps
pub mod Assembled
pub mod Answering
pub mod Naming
pub mod Counting
