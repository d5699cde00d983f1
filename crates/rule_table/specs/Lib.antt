pub mod Headings
pub mod Columns
