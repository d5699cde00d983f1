-- Computed cases of the form of clause files.
pub mod TextCases
