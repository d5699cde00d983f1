-- Computed cases of the index of mentions.
pub mod IndexCases
