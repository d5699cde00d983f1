-- `call_complete::complete` meets its contract: the refusal where it is due, and else what the report says of the options that are named.
use mathlib.Core.Bool.{Bool}
use mathlib.Core.Option.{none}
use mathlib.Core.Path.{◌≡◌, refl, sym, ap, ◌∙◌}
use Rattle.calls.specs.Outcomes.{accepted}
use Rattle.calls.specs.Chains.{order_refusal}
use Rattle.calls.specs.Calls.{complete_of}
use Rattle.call_answers.specs.AnswerMeaning.{due_of}
use Rattle.order_lines.specs.LineMeaning.{order}
use Rattle.call_answers.proofs.AnswersTold.{handed_on}
use Rattle.call_complete.proofs.CompleteAnswers.{refused_so, book, formed, few, known, answered_so}
use Rattle.call_complete.proofs.complete.Goals as goal
use Rattle.call_complete.proofs.complete.Goals.{In_ok-refuse}

none_due :
    (c : goal.In_ok-refuse) →
    let a = c.args in
    order_refusal (order a.sheet.now a.lines a.count) a.book.now ≡ none
none_due c = sym c.in_ok-refuse.ensures

pub returns-in_err-refuse : goal.returns-in_err-refuse
returns-in_err-refuse c = rw (handed_on c.from_residual.ensures.1) (refused_so _ _ (sym c.in_err-refuse.ensures))

pub note_bodies-requires : goal.note_bodies-requires
note_bodies-requires c = (book _ _ (none_due (goal.at.note_bodies-requires c).In_ok-refuse), refl)

pub note_lines-requires : goal.note_lines-requires
note_lines-requires c =
    let e = none_due (goal.at.note_lines-requires c).In_ok-refuse in
    record { count_le_most_lines = (few _ _ e, c.note_bodies.ensures.long); lines_value = known _ _ e }

pub is_complete-requires : goal.is_complete-requires
is_complete-requires c = formed _ _ (none_due (goal.at.is_complete-requires c).In_ok-refuse)

-- What the two tables say is the answer.
pub returns : goal.returns
returns c =
    answered_so _ _ (none_due (goal.at.returns c).In_ok-refuse) 513 _ _ c.note_bodies.ensures c.note_lines.ensures c.is_complete.ensures
