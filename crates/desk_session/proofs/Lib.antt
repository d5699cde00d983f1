pub mod PrintedAnswers
pub mod Buffers
