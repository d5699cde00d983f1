-- `call_transfer::load` meets its contract: each answer is the first refusal that is due, or the sheet that the book fills.
use mathlib.Core.Option.{none}
use mathlib.Core.Path.{◌≡◌, sym, ap, ◌∙◌}
use Rattle.calls.specs.Chains.{book_refusal}
use Rattle.call_laws.specs.Books.{accepted_book, check_none, check_some}
use Rattle.call_answers.specs.AnswerMeaning.{done_of}
use Rattle.call_answers.proofs.AnswersTold.{handed_on}
use Rattle.call_transfer.proofs.TransferAnswers.{load_short, load_refused, load_done}
use Rattle.call_transfer.proofs.load.Goals as goal
use Rattle.call_transfer.proofs.load.Goals.{In_ok-check}

-- The book is accepted where the check says so.
accepted_here : (c : goal.In_ok-check) → book_refusal c.args.book.now ≡ none
accepted_here c =
    check_none c.args.book.now c.in_ok-check.ensures

pub returns-then-target-ne-SHEET_LENGTH : goal.returns-then-target-ne-SHEET_LENGTH
returns-then-target-ne-SHEET_LENGTH c = let a = c.args in load_short a.book.now a.target.now c.if-target-ne-SHEET_LENGTH.true

pub returns-in_err-check : goal.returns-in_err-check
returns-in_err-check c =
    let a = c.args in
    rw (handed_on c.from_residual.ensures.1)
    (load_refused a.book.now a.target.now c.if-target-ne-SHEET_LENGTH.false (check_some a.book.now _ c.in_err-check.ensures))

pub fill_sheet-requires : goal.fill_sheet-requires
fill_sheet-requires c = (accepted_book _ (accepted_here (goal.at.fill_sheet-requires c).In_ok-check), c.if-target-ne-SHEET_LENGTH.false)

pub returns : goal.returns
returns c =
    let a = c.args in
    rw c.fill_sheet.ensures
    (load_done a.book.now a.target.now c.if-target-ne-SHEET_LENGTH.false (accepted_here (goal.at.returns c).In_ok-check))
