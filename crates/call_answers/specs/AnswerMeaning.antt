-- What each case of an answer is in the definitions: its refusal, by document 01's number, and its values.
use Rattle.std.specs.Prelude.{List, ℕ, Result, Ok, Err}
use Rattle.std.proofs.Math.Option.{Option, none, some}
use Rattle.calls.specs.Refusals as M
use Rattle.calls.specs.Outcomes.{Answer, refused, accepted, Outcome}
use Rattle.calls.specs.Lines.{State}
use Rattle.calls.specs.Index.{Indexed}
use Rattle.call_answers.specs.declared.Refusal as R
use Rattle.call_answers.specs.declared.Refusal.TheVariants as V₁

abbrev pub refusal_of : R.Refusal → M.Refusal
refusal_of V₁.Length = M.length_refused
refusal_of V₁.Head = M.head_refused
refusal_of V₁.Code = M.code_refused
refusal_of V₁.Contents = M.contents_refused
refusal_of V₁.Body = M.body_refused
refusal_of V₁.Weight = M.weight_refused
refusal_of V₁.Unknown = M.option_refused
refusal_of V₁.Full = M.full_refused
refusal_of V₁.Rule = M.rule_refused
refusal_of V₁.Step = M.step_refused
refusal_of V₁.Sheet = M.sheet_refused
refusal_of V₁.Output = M.output_refused
refusal_of V₁.Line = M.line_refused
refusal_of V₁.List = M.list_refused
refusal_of V₁.Text = M.text_refused
refusal_of V₁.Size = M.size_refused

-- The answer that a result is.
abbrev pub answer_of : {A : Type 0} → Result A R.Refusal → Answer A
answer_of (Ok a) = accepted a
answer_of (Err r) = refused (refusal_of r)

-- That of a call that has no value to give, and of one that gives a number.
abbrev pub done_of : Result (Unit {0}) R.Refusal → Answer (Unit {0})
done_of = answer_of

abbrev pub found_of : Result ℕ R.Refusal → Answer ℕ
found_of = answer_of

-- The refusal that is due, if any.
abbrev pub due_of : {A : Type 0} → Result A R.Refusal → Option M.Refusal
due_of (Ok a) = none
due_of (Err r) = some (refusal_of r)

-- An answer, with what the call leaves in all that it may write.
abbrev pub after_call : {L A : Type 0} → Answer A → L → Outcome L A
after_call a l = record { answer = a; lent = l }

-- What a call on an order answers, and leaves of its sheet.
abbrev pub on_sheet : {A : Type 0} → Outcome State A → Outcome (List ℕ) A
on_sheet o = record { answer = o.answer; lent = o.lent.sheet }

-- What a call leaves of its own, beside what it leaves of its index.
abbrev pub beside_index : {L : Type 0} → L → List ℕ → Indexed L
beside_index own index = record { own = own; index = index }

-- What a call on an order with an index answers, and leaves of its sheet and its index.
abbrev pub on_indexed_sheet : {A : Type 0} → Outcome (Indexed State) A → Outcome (Indexed (List ℕ)) A
on_indexed_sheet o = record { answer = o.answer; lent = record { own = o.lent.own.sheet; index = o.lent.index } }
