pub mod ObservedAnswers
