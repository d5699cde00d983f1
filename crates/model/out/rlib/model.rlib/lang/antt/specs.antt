-- Combinators, and the limits by name.
pub mod Base
pub mod Limits
-- Literals, trees of them and their prefix code.
pub mod Literal
pub mod Forest
pub mod Code
-- Meaning: clauses, derived literals, the report.
pub mod Clauses
pub mod Propagation
-- The rules, the strategy and runs.
pub mod Rules
pub mod Strategy
-- The order sheet, what choices, steps and runs leave of it, and the book.
pub mod Sheet
pub mod Results
pub mod Book
