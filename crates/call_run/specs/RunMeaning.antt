-- What a run's result is in the definitions.
use Rattle.std.specs.Prelude.{Result, Ok, Err}
use Rattle.calls.specs.Calls as M
use Rattle.calls.specs.Outcomes.{Answer, refused, accepted}
use Rattle.call_answers.specs.declared.Refusal.{Refusal}
use Rattle.call_answers.specs.AnswerMeaning.{refusal_of}
use Rattle.run_steps.specs.declared.Ended.{Ended}

-- Settled or stopped, and the count of steps.
abbrev pub ran_of : Result Ended Refusal → Answer M.Ran
ran_of (Ok end) = accepted (record { settled = end.settled; count = end.count })
ran_of (Err r) = refused (refusal_of r)
