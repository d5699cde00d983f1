-- `desk_keying::key_line` meets its contract: a full list, a line that names no option, a keying that is refused; and else its option.
use mathlib.Core.Path.{◌≡◌, sym, ap, ◌∙◌}
use native.Mathlib.Omega.{arith}
use Rattle.calls.specs.Outcomes.{accepted}
use Rattle.call_answers.specs.AnswerMeaning.{done_of, found_of}
use Rattle.desk_keying.specs.Endings.{asked}
use Rattle.call_answers.proofs.AnswersTold.{handed_on}
use Rattle.desk_keying.proofs.KeyedLines.{asked_small, line_full, line_unknown, key_refused, key_taken}
use Rattle.desk_keying.proofs.key_line.Goals as goal
use Rattle.desk_keying.proofs.key_line.Goals.{In_ok-v}

-- The option that the line names.
asks :
    (c : goal.In_ok-v) →
    let a = c.args in
    asked a.book.now a.line.now ≡ accepted c.in_ok-v.v
asks c = sym c.in_ok-v.ensures

pub returns-then-count-eq-MOST_LINES : goal.returns-then-count-eq-MOST_LINES
returns-then-count-eq-MOST_LINES c = let a = c.args in line_full a.book.now a.line.now a.sheet.now a.lines a.count c.if-count-eq-MOST_LINES.true

pub returns-in_err-v : goal.returns-in_err-v
returns-in_err-v c =
    let a = c.args in
    rw (handed_on c.from_residual.ensures.1)
    (line_unknown a.book.now a.line.now a.sheet.now a.lines a.count c.if-count-eq-MOST_LINES.false (sym c.in_err-v.ensures))

pub bounds-line-0 : goal.bounds-line-0
bounds-line-0 c =
    let a = c.args in
    omega (arith, (asked_small a.book.now a.line.now _ (asks (goal.at.bounds-line-0 c).In_ok-v)).0)

pub returns-in_default : goal.returns-in_default
returns-in_default c =
    let a = c.args in
    key_taken a.book.now a.line.now a.sheet.now a.lines a.count c.if-count-eq-MOST_LINES.false (asks (goal.at.returns-in_default c).In_ok-v)
    c.in_default.ensures

pub returns : goal.returns
returns c =
    let a = c.args in
    key_refused a.book.now a.line.now a.sheet.now a.lines a.count c.if-count-eq-MOST_LINES.false (asks (goal.at.returns c).In_ok-v)
    c.in-Err.ensures
