pub mod SearchLevels
pub mod InnerSearch
pub mod FirstChildren
pub mod LentStretch
