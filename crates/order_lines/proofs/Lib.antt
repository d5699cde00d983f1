pub mod Copies
pub mod LineLaws
