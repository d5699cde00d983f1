-- The book that a clause file gives: its sizes, codes and trees; that it is accepted and means the file's clauses. What a file does not
-- depend on, and a text of each file.
pub mod Sizes
pub mod Codes
pub mod Trees
pub mod Books
pub mod Reading
pub mod Layout
pub mod BookBytes
pub mod Spelled
