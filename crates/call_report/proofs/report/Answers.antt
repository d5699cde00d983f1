-- `call_report::report` meets its contract: each refusal where it is due, and else the report at the start of the output.
use mathlib.Core.Bool.{Bool, true, false}
use mathlib.Core.List.{List, ◌++◌}
use mathlib.Core.Path.{◌≡◌, sym, ◌∙◌}
use Prim.Native.Nat.{ℕ, ◌≤◌, ◌<◌}
use native.Mathlib.Omega.{arith}
use borrow.Author.Tests.{lt-ltb, le-ltb}
use lib.ListN.{length, get_or, drop}
use lib.Seq.{length-take-le}
use Rattle.model.specs.Base.{only_if, first_of, placed}
use Rattle.model.specs.Sheet.{is_sheet, options_in, report_in}
use Rattle.calls.specs.Refusals.{sheet_refused, output_refused}
use Rattle.calls.specs.Outcomes.{refused, accepted, outcome}
use Rattle.calls.specs.Chains.{report_refusal}
use Rattle.calls.specs.Calls.{report_of}
use Rattle.call_answers.specs.AnswerMeaning.{after_call}
use Rattle.theory_forms.specs.Sheets.{sheet_formed}
use Rattle.call_report.proofs.report.Goals as goal
use Rattle.call_report.proofs.report.Goals.{Else-not-is_sheet}

-- What is answered, by the tests.
module _ (s out : List ℕ) where
  no_sheet : is_sheet s ≡ false → after_call (refused sheet_refused) out ≡ report_of s out
  unfolding report_of report_refusal only_if first_of outcome
  no_sheet h = rw h

  no_room : is_sheet s ≡ true → length out < options_in s → after_call (refused output_refused) out ≡ report_of s out
  unfolding report_of report_refusal only_if first_of outcome
  no_room h d = rw (h, lt-ltb (length out) (options_in s) d)

  done :
      is_sheet s ≡ true →
      options_in s ≤ length out →
      {b : Bool} {marks : List ℕ} {n : ℕ} →
      length marks ≡ n →
      b ≡ (report_in s).contradictory →
      marks ≡ (report_in s).marks →
      after_call (accepted b) (marks ++ drop n out) ≡ report_of s out
  unfolding report_of report_refusal only_if first_of outcome placed
  done h room long p q = rw (h, le-ltb (length out) (options_in s) room, ← p, ← q, long)

-- The first number of a sheet is its number of options.
options_read : (s : List ℕ) {n : ℕ} → n ≡ get_or s 0 0 → n ≡ options_in s
unfolding options_in
options_read s e = e

-- It is a sheet.
sheet : (c : goal.Else-not-is_sheet) → is_sheet c.args.sheet.now ≡ true
sheet c = sym c.is_sheet.ensures ∙ c.if-not-is_sheet.false

pub returns-then-not-is_sheet : goal.returns-then-not-is_sheet
returns-then-not-is_sheet c = no_sheet _ _ (sym c.is_sheet.ensures ∙ c.if-not-is_sheet.true)

pub bounds-sheet-0 : goal.bounds-sheet-0
bounds-sheet-0 c = let k = sheet_formed _ (sheet (goal.at.bounds-sheet-0 c).Else-not-is_sheet) in omega arith

pub returns-then-out-n : goal.returns-then-out-n
returns-then-out-n c =
    let k = sheet (goal.at.returns-then-out-n c).Else-not-is_sheet in
    let options = options_read c.args.sheet.now c.from-n.ensures in
    no_room _ _ k (omega arith)

pub put_report-requires : goal.put_report-requires
put_report-requires c =
    let k = sheet (goal.at.put_report-requires c).Else-not-is_sheet in
    let options = options_read c.args.sheet.now c.from-n.ensures in
    (sheet_formed _ k, length-take-le _ c.args.out.now c.if-out-n.false ∙ options)

-- The report's result, and its marks at the start of the output.
pub returns : goal.returns
returns c =
    let a = c.args in
    let options = options_read a.sheet.now c.from-n.ensures in
    let call = c.put_report in
    let long : length call.new.out ≡ c.from-n.result = call.auto.out ∙ length-take-le _ a.out.now c.if-out-n.false in
    done _ _ (sheet (goal.at.returns c).Else-not-is_sheet) (omega arith) long call.ensures.0 call.ensures.1
