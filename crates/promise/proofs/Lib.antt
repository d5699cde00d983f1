-- The theorem of demand 3, and those that stand on it. The records by which they say it are in `specs/`.
pub mod Complete
pub mod Lists
pub mod Order
pub mod Withdrawals
pub mod Runs
pub mod Desk
