-- Lines and words read from the left, byte by byte.
pub mod Breaks
pub mod Spans
pub mod Words
-- Decimal digits: read, compared, written.
pub mod Figures
pub mod Numbers
pub mod Decimals
-- What words are, and how many; comment lines; the p line.
pub mod WordKinds
pub mod FromPlaces
pub mod Marks
pub mod Tally
pub mod Comments
pub mod PLines
