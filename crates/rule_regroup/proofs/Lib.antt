pub mod Append
pub mod Gather
pub mod KeptTrees
pub mod FactoredSizes
pub mod Turning
