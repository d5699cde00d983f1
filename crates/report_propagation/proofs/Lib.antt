pub mod Learning
pub mod Looking
pub mod LoneLiterals
pub mod Watching
pub mod Following
