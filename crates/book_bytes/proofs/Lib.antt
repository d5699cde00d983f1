pub mod NumberBytes
pub mod TreeContents
pub mod ReadNumbers
