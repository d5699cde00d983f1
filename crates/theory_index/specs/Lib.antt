-- The index of mentions: its entries; when it is right; the one entry that an appended mark changes; no step raises a count.
pub mod Entries
pub mod Right
pub mod Appended
pub mod Mentions
-- A call with an index, by the call without one; its answers; the sheet that steps leave is one.
pub mod WithIndex
pub mod IndexedCalls
pub mod Left
