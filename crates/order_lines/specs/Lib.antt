pub mod LineMeaning
pub mod LentLines
