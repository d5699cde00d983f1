pub mod Among
pub mod Entries
pub mod Groups
pub mod Holding
pub mod Pushing
pub mod Tried
