pub mod Tallies
pub mod SpreadTree
