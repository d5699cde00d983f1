-- `call_transfer::write` meets its contract: each answer is the first refusal that is due, or the length of the book that is written.
use mathlib.Core.Bool.{true}
use mathlib.Core.Option.{none}
use mathlib.Core.Path.{◌≡◌, sym, ap, ◌∙◌}
use Prim.Native.Nat.{◌+◌, ◌*◌, ◌-◌}
use native.Mathlib.Omega.{arith}
use lib.ListN.{length, get_or}
use Rattle.model.specs.Code.{children}
use Rattle.model.specs.Sheet.{options_in, used_in, is_sheet}
use Rattle.model.specs.Book.{options_of, written}
use Rattle.calls.specs.Chains.{book_refusal}
use Rattle.call_laws.specs.Books.{accepted_book}
use Rattle.call_answers.specs.AnswerMeaning.{done_of}
use Rattle.theory_forms.specs.Sheets.{sheet_formed}
use Rattle.book_load.proofs.Loaded.{head_of}
use Rattle.book_write.proofs.Written.{length_written}
use Rattle.call_laws.specs.Books.{check_none, check_some}
use Rattle.call_answers.proofs.AnswersTold.{handed_on}
use Rattle.call_transfer.proofs.TransferAnswers.{write_none, write_refused, write_other, write_short, write_done}
use Rattle.call_transfer.proofs.write.Goals as goal
use Rattle.call_transfer.proofs.write.Goals.{Else-not-is_sheet, Else-word_at-options_in, In_ok-check}

-- What is known where a test was passed: the sheet is one, the book is accepted, and both have as many options.
sheet_here : (c : goal.Else-not-is_sheet) → is_sheet c.args.sheet.now ≡ true
sheet_here c = let call = c.is_sheet in sym call.ensures ∙ c.if-not-is_sheet.false

accepted_here :
    (c : goal.In_ok-check) →
    book_refusal c.args.book.now ≡ none
accepted_here c =
    check_none c.args.book.now c.in_ok-check.ensures

same_here :
    (c : goal.Else-word_at-options_in) →
    let a = c.args in
    options_of a.book.now ≡ options_in a.sheet.now
unfolding options_of
same_here c = sym c.word_at.ensures ∙ c.if-word_at-options_in.false ∙ c.options_in.ensures.0

length_here :
    (c : goal.Else-word_at-options_in) →
    let a = c.args in
    length (written a.sheet.now a.book.now)
    ≡ 8 + (13 * options_in a.sheet.now + (4 * children (get_or a.sheet.now 2 0) + 2 * (used_in a.sheet.now - 1)))
length_here c =
    let a = c.args in
    length_written a.sheet.now a.book.now (sheet_formed _ (sym c.is_sheet.ensures ∙ c.if-not-is_sheet.false))
    (accepted_book _ (check_none a.book.now c.in_ok-check.ensures))
    (same_here c)

pub returns-then-not-is_sheet : goal.returns-then-not-is_sheet
returns-then-not-is_sheet c =
    let a = c.args in
    let call = c.is_sheet in
    write_none a.sheet.now a.book.now a.out.now (sym call.ensures ∙ c.if-not-is_sheet.true)

pub returns-in_err-check : goal.returns-in_err-check
returns-in_err-check c =
    let a = c.args in
    rw (handed_on c.from_residual.ensures.1)
    (write_refused a.sheet.now a.book.now a.out.now (sheet_here (goal.at.returns-in_err-check c).Else-not-is_sheet)
    (check_some a.book.now _ c.in_err-check.ensures))

pub word_at-requires : goal.word_at-requires
word_at-requires c = let accepted = accepted_book _ (accepted_here (goal.at.word_at-requires c).In_ok-check) in omega (arith, head_of _ accepted)

pub options_in-requires : goal.options_in-requires
options_in-requires c = sheet_formed _ (sheet_here (goal.at.options_in-requires c).Else-not-is_sheet)

pub returns-then-word_at-options_in : goal.returns-then-word_at-options_in
unfolding options_of
returns-then-word_at-options_in c =
    let a = c.args in
    let at = goal.at.returns-then-word_at-options_in c in
    write_other a.sheet.now a.book.now a.out.now (sheet_here at.Else-not-is_sheet) (accepted_here at.In_ok-check)
    (λ e. c.if-word_at-options_in.true (c.word_at.ensures ∙ e ∙ sym c.options_in.ensures.0))

pub written_length-due-requires : goal.written_length-due-requires
written_length-due-requires c = sheet_formed _ (sheet_here (goal.at.written_length-due-requires c).Else-not-is_sheet)

pub returns-then-out-due : goal.returns-then-out-due
returns-then-out-due c =
    let a = c.args in
    let at = goal.at.returns-then-out-due c in
    let long = length_here at.Else-word_at-options_in in
    write_short a.sheet.now a.book.now a.out.now (sheet_here at.Else-not-is_sheet) (accepted_here at.In_ok-check)
    (same_here at.Else-word_at-options_in) (omega arith)

pub put_book-requires : goal.put_book-requires
put_book-requires c =
    let at = goal.at.put_book-requires c in
    let long = length_here at.Else-word_at-options_in in
    record {
      formed = sheet_formed _ (sheet_here at.Else-not-is_sheet);
      accepted = (accepted_book _ (accepted_here at.In_ok-check), same_here at.Else-word_at-options_in);
      book_in_bounds = omega arith;
    }

pub returns : goal.returns
returns c =
    let a = c.args in
    let at = goal.at.returns c in
    let long = length_here at.Else-word_at-options_in in
    rw (c.put_book.ensures, c.written_length-due.ensures, ← long)
    (write_done a.sheet.now a.book.now a.out.now (sheet_here at.Else-not-is_sheet) (accepted_here at.In_ok-check)
    (same_here at.Else-word_at-options_in) (omega arith))
