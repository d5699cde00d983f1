-- Computed cases of the "complete" question.
pub mod CompleteCases
