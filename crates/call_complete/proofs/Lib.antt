pub mod CompleteAnswers
