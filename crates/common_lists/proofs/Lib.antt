pub mod Lent
pub mod Starts
