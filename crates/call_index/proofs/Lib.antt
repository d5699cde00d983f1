pub mod IndexAnswers
