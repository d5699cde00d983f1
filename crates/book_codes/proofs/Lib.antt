pub mod CodesFrom
pub mod Pieces
pub mod Listing
