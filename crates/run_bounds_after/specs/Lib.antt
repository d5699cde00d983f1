pub mod Zoned
pub mod Renewed
pub mod SetBack
pub mod Resized
