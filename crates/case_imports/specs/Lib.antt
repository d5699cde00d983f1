-- Computed cases of imports: the file that is read, the book, the limits and the output.
pub mod ImportCases
