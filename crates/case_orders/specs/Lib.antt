-- Computed cases of orders: their lines, and lists of calls.
pub mod LineCases
pub mod ListCases
