-- What the result of the "complete" question is in the definitions.
use Rattle.std.specs.Prelude.{Bool, Result}
use Rattle.calls.specs.Outcomes.{Answer}
use Rattle.call_answers.specs.declared.Refusal.{Refusal}
use Rattle.call_answers.specs.AnswerMeaning.{answer_of}

-- It says whether the sheet is complete.
abbrev pub completed_of : Result Bool Refusal → Answer Bool
completed_of = answer_of
