pub mod Redexes
pub mod Sought
