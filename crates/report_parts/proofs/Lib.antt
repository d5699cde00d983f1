pub mod Parting
pub mod Linking
pub mod Finding
