-- Laws of the combinators, lists, buffers, literals and forests, and of the clauses taken from a forest.
pub mod Logic
pub mod Lists
pub mod Placed
pub mod Literals
pub mod Forests
pub mod Ended
pub mod Taken
-- Codes of forests, and their numbers.
pub mod Codes
pub mod Numbers
pub mod Scan
-- The form of trees and of sheets; a choice keeps it.
pub mod Rooted
pub mod Seats
pub mod Fine
pub mod Shape
pub mod Sheets
pub mod Choice
