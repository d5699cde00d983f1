pub mod LeastNumbers
pub mod Dropping
pub mod Ending
