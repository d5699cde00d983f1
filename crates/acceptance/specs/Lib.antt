-- What the buyer reads alone: each sentence of the demands, and each claim of the requests that have landed, as one statement in full, by
-- the definitions of `model`, `texts` and `calls`, proved from `promise`.
pub mod Demand1
pub mod Demand2
pub mod Demand3
pub mod Runs
pub mod Desk
pub mod U2
pub mod U5
pub mod U6
pub mod U7
