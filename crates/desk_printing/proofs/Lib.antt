pub mod PlacedLines
pub mod Options
