-- Books: their bytes and contents; books and sheets, loaded and written.
pub mod Bytes
pub mod Contents
pub mod Loading
pub mod Counts
pub mod BookParts
pub mod Writing
