pub mod Walk
pub mod Here
pub mod TreeNumbers
pub mod WalkedTrees
pub mod LiteralRuns
pub mod Asking
