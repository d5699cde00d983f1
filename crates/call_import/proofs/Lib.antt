mod LimitTests
mod ImportAnswers
