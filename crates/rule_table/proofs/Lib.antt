pub mod HeadTests
pub mod Rows
