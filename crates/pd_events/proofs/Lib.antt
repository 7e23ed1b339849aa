-- The modules of lemmas of this crate.
pub mod FieldViews
pub mod StatementFacts
pub mod RecordFacts
pub mod ReaderSteps
pub mod PlainReading
pub mod PlainSettings
pub mod PlainLines
