-- What a report's result is in the definitions.
use Rattle.std.specs.Prelude.{Bool, Result}
use Rattle.calls.specs.Outcomes.{Answer}
use Rattle.call_answers.specs.declared.Refusal.{Refusal}
use Rattle.call_answers.specs.AnswerMeaning.{answer_of}

-- A report says whether the sheet is contradictory.
abbrev pub reported_of : Result Bool Refusal → Answer Bool
reported_of = answer_of
