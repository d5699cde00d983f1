pub mod Breaking
pub mod Stacks
