-- `call_index::refuses_early` meets its contract: what is due is none, or a refusal that is asked.
use mathlib.Core.Path.{sym, ap, ◌∙◌}
use Rattle.model.specs.Base.{is_some}
use Rattle.calls.specs.Chains.{early}
use Rattle.call_answers.specs.AnswerMeaning.{refusal_of, due_of}
use Rattle.call_index.proofs.IndexAnswers.{none_early, some_early}
use Rattle.call_index.proofs.refuses_early.Goals as goal

pub returns-in-Ok : goal.returns-in-Ok
returns-in-Ok c = sym (ap (λ d. is_some (early (due_of d))) c.in-Ok.is ∙ none_early)

pub returns-in-Err : goal.returns-in-Err
returns-in-Err c =
    c.is_early.ensures ∙ sym (ap (λ d. is_some (early (due_of d))) c.in-Err.is ∙ some_early (refusal_of c.in-Err.r))
