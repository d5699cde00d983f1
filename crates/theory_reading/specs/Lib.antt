-- Numbers of literals told from others; numbers read from the left; stretches of a sheet, and the forests that they spell.
pub mod Leaves
pub mod Spans
pub mod Flat
pub mod Stretches
