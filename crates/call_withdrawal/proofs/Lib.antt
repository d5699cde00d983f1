pub mod WithdrawalAnswers
