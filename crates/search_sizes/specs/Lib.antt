pub mod Ranges
pub mod SizeTables
pub mod TreeHops
pub mod FirstApplying
