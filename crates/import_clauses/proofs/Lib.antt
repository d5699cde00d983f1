pub mod Stores
pub mod NodeStores
pub mod DraftLaws
pub mod BookDrafts
pub mod DraftWords
mod ReadMarks
mod Pass
mod BookWritten
pub mod Files
