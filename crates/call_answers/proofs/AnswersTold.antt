-- An outcome told apart: the number of its answer, and what is left of what it may write.
use mathlib.Core.List.{List}
use mathlib.Core.Path.{◌≡◌, ap, ◌∙◌}
use Prim.Native.Nat.{ℕ}
use Rattle.std.specs.Prelude.{Result, Ok, Err}
use Rattle.std.specs.Result.{IsErrAnd}
use Rattle.calls.specs.Outcomes.{Answer, Outcome}
use Rattle.calls.specs.Index.{Indexed}
use Rattle.call_answers.specs.declared.Refusal.{Refusal}
use Rattle.call_answers.specs.AnswerMeaning.{after_call, beside_index}

-- A buffer.
pub told :
    {A : Type 0} (pack : Answer A → ℕ) {a : Answer A} {l : List ℕ} {o : Outcome (List ℕ) A} {r : ℕ} →
    r ≡ pack a →
    after_call a l ≡ o →
    (r ≡ pack o.answer) × (l ≡ o.lent)
told pack p e = (p ∙ ap (λ x. pack x.answer) e, ap (λ x. x.lent) e)

-- A sheet with its index.
pub told_beside :
    {A : Type 0} (pack : Answer A → ℕ) {a : Answer A} {s index : List ℕ} {o : Outcome (Indexed (List ℕ)) A} {r : ℕ} →
    r ≡ pack a →
    after_call a (beside_index s index) ≡ o →
    (r ≡ pack o.answer) × ((s ≡ o.lent.own) × (index ≡ o.lent.index))
told_beside pack p e = (p ∙ ap (λ x. pack x.answer) e, (ap (λ x. x.lent.own) e, ap (λ x. x.lent.index) e))

-- What a call answers where a `?` in it hands a refusal on: the same refusal.
pub handed_on : {A : Type 0} {r : Result A Refusal} {e : Refusal} → IsErrAnd r (λ x. x ≡ e) → r ≡ Err e
handed_on {r = Err x} h = ap Err h
handed_on {r = Ok a} h = absurd h
