pub mod KeyingAnswers
