pub mod CopiedLines
pub mod Stored
