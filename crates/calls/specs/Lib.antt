-- What calls answer and leave, in the words of documents 01 and 02.
pub mod Refusals
pub mod Outcomes
pub mod Lines
pub mod Index
pub mod Named
pub mod Conditions
pub mod Chains
pub mod Calls
-- Lists of calls, and what the desk program writes.
pub mod History
pub mod Desk
-- The starred cases.
pub mod Cases
