-- `call_keying::key` meets its contract: it is refused before anything is written; or the mark is appended, for which there is room.
use mathlib.Core.Option.{none}
use mathlib.Core.Path.{◌≡◌, sym, ap, ◌∙◌}
use native.Mathlib.Omega.{arith}
use Rattle.calls.specs.Chains.{key_refusal}
use Rattle.theory_forms.specs.Sheets.{sheet_formed, sheet_options}
use Rattle.call_laws.specs.Accepted.{Keyable, key_accepted}
use Rattle.call_answers.specs.AnswerMeaning.{done_of, due_of}
use Rattle.order_lines.specs.LineMeaning.{order}
use Rattle.call_answers.proofs.AnswersTold.{handed_on}
use Rattle.call_keying.proofs.KeyingAnswers.{refused_by, keyed}
use Rattle.call_keying.proofs.key.Goals as goal
use Rattle.call_keying.proofs.key.Goals.{In_ok-refuse}

-- Nothing is refused where the tests say so.
module _ (c : goal.In_ok-refuse) where
  none_due : let a = c.args in key_refusal (order a.sheet.now a.lines a.count) a.option ≡ none
  none_due = sym c.in_ok-refuse.ensures

  may : let a = c.args in Keyable (order a.sheet.now a.lines a.count) a.option
  may = key_accepted _ _ none_due

pub returns-in_err-refuse : goal.returns-in_err-refuse
returns-in_err-refuse c =
    let a = c.args in
    rw (handed_on c.from_residual.ensures.1)
    (refused_by (order a.sheet.now a.lines a.count) a.option a.negative (sym c.in_err-refuse.ensures))

pub overflow_cast-option : goal.overflow_cast-option
overflow_cast-option c =
    let w = may (goal.at.overflow_cast-option c).In_ok-refuse in
    record { fits = omega (arith, w.known, sheet_options _ w.sheet) }

pub append-requires : goal.append-requires
append-requires c =
    let w = may (goal.at.append-requires c).In_ok-refuse in
    record { formed = sheet_formed _ w.sheet; option_bound = (w.known, w.room) }

pub returns : goal.returns
returns c =
    let a = c.args in
    rw c.append.ensures (keyed (order a.sheet.now a.lines a.count) a.option a.negative (none_due (goal.at.returns c).In_ok-refuse))
