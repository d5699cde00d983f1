-- `call_withdrawal::refuse` meets its contract: what the sheet, the book and the lines are refused for, or else what the line is.
use mathlib.Core.Option.{none}
use mathlib.Core.Path.{◌≡◌, sym, ap, ◌∙◌}
use Rattle.calls.specs.Chains.{order_refusal}
use Rattle.call_laws.specs.Books.{accepted_book}
use Rattle.call_laws.specs.Accepted.{order_accepted}
use Rattle.call_answers.specs.AnswerMeaning.{due_of}
use Rattle.order_lines.specs.LineMeaning.{order}
use Rattle.call_answers.proofs.AnswersTold.{handed_on}
use Rattle.call_withdrawal.proofs.WithdrawalAnswers.{not_orderly, orderly}
use Rattle.call_withdrawal.proofs.refuse.Goals as goal
use Rattle.call_withdrawal.proofs.refuse.Goals.{In_ok-refuse}

none_due : (c : goal.In_ok-refuse) → let a = c.args in order_refusal (order a.sheet.now a.lines a.count) a.book.now ≡ none
none_due c = sym c.in_ok-refuse.ensures

pub returns-in_err-refuse : goal.returns-in_err-refuse
returns-in_err-refuse c = ap due_of (handed_on c.from_residual.ensures.1) ∙ not_orderly _ _ _ (sym c.in_err-refuse.ensures)

pub refuse_line-requires : goal.refuse_line-requires
refuse_line-requires c =
    let w = order_accepted _ _ (none_due (goal.at.refuse_line-requires c).In_ok-refuse) in
    (accepted_book _ w.book, w.lines.few)

pub returns : goal.returns
returns c = c.refuse_line.ensures ∙ orderly _ _ _ (none_due (goal.at.returns c).In_ok-refuse)
