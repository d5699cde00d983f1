pub mod Foreseen
pub mod Followed
pub mod SizesLeft
pub mod MovedOn
