-- Sentences of the papers as theorems, where cases stay finite: for every book, sheet, input and number, in terms that need no definition
-- of ours but the one that is pinned. Two files of words first, then one subject each.
pub mod Places
pub mod Marks
pub mod NamedOptions
pub mod IndexNumbers
pub mod DeskLines
pub mod GoodCodes
pub mod AtLeast
pub mod LoadedLength
pub mod RefusalNumbers
