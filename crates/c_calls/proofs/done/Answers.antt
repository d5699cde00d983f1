-- `c_calls::done` meets its contract.
use mathlib.Core.Path.{sym, ap, ◌∙◌}
use Rattle.call_answers.specs.AnswerMeaning.{done_of}
use Rattle.c_calls.specs.Packed.{packed_done}
use Rattle.c_calls.proofs.done.Goals as goal

pub returns-in-Err : goal.returns-in-Err
returns-in-Err c = c.refused.ensures ∙ ap (λ a. packed_done (done_of a)) (sym c.in-Err.is)
