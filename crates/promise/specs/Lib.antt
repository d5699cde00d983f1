-- The demands, in their order. Each theorem's comment quotes the sentence that it proves. Demand 3 is stated here, and it is proved in
-- `proofs/`, as is what stands on it.
pub mod Refusals
pub mod Due
pub mod Reports
pub mod Complete
pub mod RoundTrips
pub mod Imports
pub mod Lists
pub mod Withdrawals
pub mod Runs
pub mod HouseSteps
pub mod Weights
pub mod Indexes
pub mod Desk
