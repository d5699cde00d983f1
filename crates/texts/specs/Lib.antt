-- Numbers as decimal digits.
pub mod Decimals
-- Clause files, and the book that one gives.
pub mod ClauseFile
pub mod ClauseBook
