-- Meaning, as lists of calls keep it: valuations and models; the rules keep them; rules in another order have the same.
pub mod Totals
pub mod Valuations
pub mod Soundness
pub mod Reordered
-- Where no rule applies.
pub mod Irreducible
pub mod Standing
pub mod Still
pub mod Failing
pub mod Normal
-- Refusals: which one a chain gives; a book's test by test; what is known where a call is accepted.
pub mod RefusalChains
pub mod Books
pub mod Accepted
-- The lines of an order, and marks put on a sheet.
pub mod OrderLines
-- What each call does, and what a list of calls does: the account is kept; a settled run leaves a normal form.
pub mod Effects
pub mod SettledLists
pub mod Rekeyed
pub mod KeptOrders
-- Loading and writing, in terms of the calls.
pub mod LoadingAndWriting
-- Outputs whose first numbers were written.
pub mod PlacedOutputs
-- The desk's lines, in terms of the calls.
pub mod Keyed
