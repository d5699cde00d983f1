-- What computed cases see through, and what they are spelled with.
pub mod Opened
pub mod Samples
pub mod Imports
