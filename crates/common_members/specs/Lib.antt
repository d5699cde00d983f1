pub mod Marks
pub mod Tested
