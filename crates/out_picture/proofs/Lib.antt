-- The modules of lemmas of this crate.
pub mod ColumnLaws
pub mod TableSteps
pub mod Listed
pub mod Cuts
pub mod StepFacts
pub mod FlightFacts
pub mod ReceivedFacts
pub mod PictureFacts
pub mod CycleFacts
pub mod Selected
pub mod Gridded
pub mod ColumnsAsked
pub mod LanesNamed
pub mod RunShown
pub mod CycleShown
pub mod PicturesShow
pub mod NotesShown
