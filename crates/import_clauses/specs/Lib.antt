pub mod Drafts
pub mod FileFrom
