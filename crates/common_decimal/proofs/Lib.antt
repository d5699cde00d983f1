pub mod PlacedBytes
pub mod PlacedDigits
