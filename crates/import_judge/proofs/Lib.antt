mod Counting
mod Verdicts
