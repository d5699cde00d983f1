-- `call_orders::refuse` meets its contract: the first test that fails decides, and the tests before it held.
use mathlib.Core.Bool.{true}
use mathlib.Core.Option.{none}
use mathlib.Core.Path.{◌≡◌, sym, ap, ◌∙◌}
use native.Mathlib.Omega.{arith}
use borrow.Author.Rules.{rules}
use lib.ListN.{length}
use Rattle.model.specs.Sheet.{options_in, is_sheet}
use Rattle.model.specs.Book.{options_of}
use Rattle.calls.specs.Chains.{book_refusal}
use Rattle.calls.specs.Conditions.{has_lines_in_order}
use Rattle.theory_forms.specs.Sheets.{sheet_formed}
use Rattle.call_laws.specs.Books.{accepted_book, check_none, check_some}
use Rattle.call_answers.specs.AnswerMeaning.{due_of}
use Rattle.order_lines.specs.LineMeaning.{order}
use Rattle.order_check.proofs.Counted.{in_order_by}
use Rattle.call_answers.proofs.AnswersTold.{handed_on}
use Rattle.call_orders.proofs.OrderAnswers.{no_sheet, not_accepted, other_options, no_order, in_order, options_read}
use Rattle.call_orders.proofs.refuse.Goals as goal
use Rattle.call_orders.proofs.refuse.Goals.{After-are_in_order, After-word_at, Else-not-is_sheet, In_ok-check}

-- The tests that are passed, and what each says.
good : (c : goal.Else-not-is_sheet) → is_sheet c.args.sheet.now ≡ true
good c = sym c.is_sheet.ensures ∙ c.if-not-is_sheet.false

accepted_here : (c : goal.In_ok-check) → book_refusal c.args.book.now ≡ none
accepted_here c = check_none c.args.book.now c.in_ok-check.ensures

-- The numbers that are compared are the book's N and the sheet's.
book_options : (c : goal.After-word_at) → options_of c.args.book.now ≡ c.word_at.result
unfolding options_of
book_options c = sym c.word_at.ensures

same_options : (c : goal.After-are_in_order) → let a = c.args in options_of a.book.now ≡ options_in a.sheet.now
unfolding options_of
same_options c = sym c.word_at.ensures ∙ c.if-word_at-from.false ∙ c.from.ensures ∙ options_read _

ordered :
    (c : goal.After-are_in_order) →
    let a = c.args in
    has_lines_in_order (order a.sheet.now a.lines a.count) ≡ c.are_in_order.result
ordered c =
    let a = c.args in
    let long : length a.lines ≡ 64 = search rules in
    in_order_by a.sheet.now a.lines a.count _ long (options_read _) ∙ sym c.are_in_order.ensures

pub returns-then-not-is_sheet : goal.returns-then-not-is_sheet
returns-then-not-is_sheet c = no_sheet _ _ (sym c.is_sheet.ensures ∙ c.if-not-is_sheet.true)

pub returns-in_err-check : goal.returns-in_err-check
returns-in_err-check c =
    let a = c.args in
    let k = (goal.at.returns-in_err-check c).Else-not-is_sheet in
    ap due_of (handed_on c.from_residual.ensures.1)
    ∙ not_accepted (order a.sheet.now a.lines a.count) a.book.now (good k) (check_some a.book.now _ c.in_err-check.ensures)

pub word_at-requires : goal.word_at-requires
word_at-requires c = omega (arith, (accepted_book _ (accepted_here (goal.at.word_at-requires c).In_ok-check)).head)

pub bounds-sheet-0 : goal.bounds-sheet-0
bounds-sheet-0 c = omega (arith, (sheet_formed _ (good (goal.at.bounds-sheet-0 c).Else-not-is_sheet)).whole)

pub returns-then-word_at-from : goal.returns-then-word_at-from
returns-then-word_at-from c =
    let k = (goal.at.returns-then-word_at-from c).Else-not-is_sheet in
    let l = (goal.at.returns-then-word_at-from c).In_ok-check in
    let p = (goal.at.returns-then-word_at-from c).After-word_at in
    let a = c.args in
    other_options (order a.sheet.now a.lines a.count) _ (good k) (accepted_here l)
    (λ e. c.if-word_at-from.true (sym (book_options p) ∙ e ∙ sym (c.from.ensures ∙ options_read _)))

pub bounds-sheet-0-2 : goal.bounds-sheet-0-2
bounds-sheet-0-2 c = omega (arith, (sheet_formed _ (good (goal.at.bounds-sheet-0-2 c).Else-not-is_sheet)).whole)

pub returns-then-not-are_in_order : goal.returns-then-not-are_in_order
returns-then-not-are_in_order c =
    let k = (goal.at.returns-then-not-are_in_order c).Else-not-is_sheet in
    let l = (goal.at.returns-then-not-are_in_order c).In_ok-check in
    no_order _ _ (good k) (accepted_here l) (same_options (goal.at.returns-then-not-are_in_order c).After-are_in_order)
    (ordered (goal.at.returns-then-not-are_in_order c).After-are_in_order ∙ c.if-not-are_in_order.true)

pub returns : goal.returns
returns c =
    let k = (goal.at.returns c).Else-not-is_sheet in
    in_order _ _ (good k) (accepted_here (goal.at.returns c).In_ok-check) (same_options (goal.at.returns c).After-are_in_order)
    (ordered (goal.at.returns c).After-are_in_order ∙ c.if-not-are_in_order.false)
