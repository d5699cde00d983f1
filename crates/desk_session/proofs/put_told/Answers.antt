-- `desk_session::put_told` meets its contract: each answer of the report, and what is printed of it.
use mathlib.Core.Bool.{Bool}
use mathlib.Core.Path.{◌≡◌, sym, ap, ◌∙◌}
use Prim.Native.Nat.{ℕ}
use native.Mathlib.Omega.{arith}
use lib.ListN.{replicate, length-replicate}
use Rattle.calls.specs.Outcomes.{Answer}
use Rattle.calls.specs.Calls.{report_of}
use Rattle.calls.specs.Desk.{screen_length}
use Rattle.call_answers.specs.AnswerMeaning.{after_call}
use Rattle.call_report.specs.ReportMeaning.{reported_of}
use Rattle.common_decimal.specs.Placed.{filled}
use Rattle.desk_session.proofs.PrintedAnswers.{few_options, told_consistent, told_contradictory, told_refused}
use Rattle.desk_session.proofs.put_told.Goals as goal

-- The screen has a byte for each option of a book.
pub put_lines-requires : goal.put_lines-requires
unfolding screen_length
put_lines-requires c =
    let few = few_options c.args.book.now c.requires.0 in
    (c.requires.0, omega (arith, few, c.report.auto.out, length-replicate {A = ℕ} screen_length 0), c.requires.1)

pub returns-in-Ok-false : goal.returns-in-Ok-false
unfolding screen_length
returns-in-Ok-false c =
    let a = c.args in
    let answer = rw c.in-Ok-false.field-0-test at c.in-Ok-false.ensures in
    c.put_lines.ensures ∙ ap (λ l. filled l a.out.now) (told_consistent a.book.now _ _ _ answer)

pub returns-in-Ok-true : goal.returns-in-Ok-true
unfolding screen_length
returns-in-Ok-true c =
    let a = c.args in
    let answer = rw c.in-Ok-true.field-0-test at c.in-Ok-true.ensures in
    c.put_first.ensures ∙ ap (λ l. filled l a.out.now) (told_contradictory a.book.now _ _ _ answer)

pub returns-in-Err : goal.returns-in-Err
unfolding screen_length
returns-in-Err c =
    let a = c.args in
    c.put_refusal.ensures ∙ ap (λ l. filled l a.out.now) (told_refused a.book.now _ _ _ _ c.in-Err.ensures)
