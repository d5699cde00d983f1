-- `call_keying::key_with` meets its contract: it is refused before anything is written; or the mark is counted in its option's entry, and
-- appended, for which there is room.
use mathlib.Core.Option.{none}
use mathlib.Core.Path.{◌≡◌, sym, ap, ap₂, ◌∙◌}
use native.Mathlib.Omega.{arith}
use Rattle.calls.specs.Outcomes.{accepted}
use Rattle.calls.specs.Chains.{key_refusal, early, index_refusal}
use Rattle.theory_forms.specs.Sheets.{sheet_formed, sheet_options}
use Rattle.theory_index.specs.Entries.{mentioned_last}
use Rattle.call_answers.specs.AnswerMeaning.{done_of, due_of, after_call, beside_index}
use Rattle.order_lines.specs.LineMeaning.{order}
use Rattle.call_answers.proofs.AnswersTold.{handed_on}
use Rattle.call_keying.proofs.KeyingAnswers.{sheet_tested, sheet_first, place_read, refused_with_index, keyed_with_index, Countable, countable}
use Rattle.call_keying.proofs.key_with.Goals as goal
use Rattle.call_keying.proofs.key_with.Goals.{In_ok-refuse}

-- By both tests nothing is due with the index.
module _ (c : goal.In_ok-refuse) where
  none_due :
      let a = c.args in
      index_refusal a.sheet.now a.index.now (key_refusal (order a.sheet.now a.lines a.count) a.option) ≡ none
  none_due =
      let a = c.args in
      sym (c.in_ok-refuse.ensures ∙ ap (index_refusal a.sheet.now a.index.now) c.refuse-own.ensures)

  may : let a = c.args in Countable (order a.sheet.now a.lines a.count) a.index.now a.option
  may = countable _ _ _ none_due

pub refuse-requires : goal.refuse-requires
refuse-requires c =
    let a = c.args in
    λ e. sheet_tested (order a.sheet.now a.lines a.count) a.option (ap early (sym c.refuse-own.ensures) ∙ e)

pub returns-in_err-refuse : goal.returns-in_err-refuse
returns-in_err-refuse c =
    let a = c.args in
    let tested = c.in_err-refuse.ensures ∙ ap (index_refusal a.sheet.now a.index.now) c.refuse-own.ensures in
    rw (handed_on c.from_residual.ensures.1)
    (refused_with_index (order a.sheet.now a.lines a.count) a.index.now a.option a.negative (sym tested))

pub bounds-sheet-1 : goal.bounds-sheet-1
bounds-sheet-1 c = let f = sheet_first _ (may (goal.at.bounds-sheet-1 c).In_ok-refuse).key.sheet in omega arith

pub mention_last-requires : goal.mention_last-requires
mention_last-requires c = (may (goal.at.mention_last-requires c).In_ok-refuse).entry

pub overflow_cast-option : goal.overflow_cast-option
overflow_cast-option c =
    let w = (may (goal.at.overflow_cast-option c).In_ok-refuse).key in
    record { fits = omega (arith, w.known, sheet_options _ w.sheet) }

pub append-requires : goal.append-requires
append-requires c =
    let w = (may (goal.at.append-requires c).In_ok-refuse).key in
    record { formed = sheet_formed _ w.sheet; option_bound = (w.known, w.room) }

-- In the index the mark is counted with the place after the last node.
pub returns : goal.returns
returns c =
    let a = c.args in
    let counted = c.mention_last.ensures ∙ ap (λ place. mentioned_last a.option place a.index.now) (place_read a.sheet.now) in
    ap₂ (λ s i. after_call (accepted tt) (beside_index s i)) c.append.ensures counted
    ∙ keyed_with_index (order a.sheet.now a.lines a.count) a.index.now a.option a.negative (none_due (goal.at.returns c).In_ok-refuse)
