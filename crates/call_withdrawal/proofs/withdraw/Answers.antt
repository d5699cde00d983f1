-- `call_withdrawal::withdraw` meets its contract: it is refused before anything is written; or the book is loaded, the standing lines get
-- their marks, for which there is room, and the index is counted anew.
use mathlib.Core.Option.{none}
use mathlib.Core.Path.{◌≡◌, sym, ap, ap₂, ◌∙◌}
use Rattle.model.specs.Base.{placed}
use Rattle.calls.specs.Outcomes.{accepted}
use Rattle.calls.specs.Index.{fresh_count}
use Rattle.calls.specs.Chains.{withdraw_refusal, early, index_refusal}
use Rattle.call_answers.specs.AnswerMeaning.{done_of, due_of, after_call, beside_index}
use Rattle.order_lines.specs.LineMeaning.{order}
use Rattle.call_answers.proofs.AnswersTold.{handed_on}
use Rattle.call_withdrawal.proofs.WithdrawalAnswers.{sheet_tested, withdrawn, refused_by, taken_back, Doable, doable}
use Rattle.call_withdrawal.proofs.withdraw.Goals as goal
use Rattle.call_withdrawal.proofs.withdraw.Goals.{After-put_standing, In_ok-refuse}

-- By both tests nothing is due with the index.
module _ (c : goal.In_ok-refuse) where
  none_due :
      let a = c.args in
      index_refusal a.sheet.now a.index.now (withdraw_refusal (order a.sheet.now a.lines a.count) a.book.now a.k) ≡ none
  none_due =
      let a = c.args in
      sym (c.in_ok-refuse.ensures ∙ ap (index_refusal a.sheet.now a.index.now) c.refuse-own.ensures)

  may : let a = c.args in Doable (order a.sheet.now a.lines a.count) a.book.now a.index.now a.k
  may = doable _ _ _ _ none_due

-- The sheet that is made.
made :
    (c : goal.After-put_standing) →
    let a = c.args in
    c.put_standing.new.sheet ≡ withdrawn (order a.sheet.now a.lines a.count) a.book.now a.k
made c = rw (c.put_standing.ensures, c.fill_sheet.ensures, c.from.ensures)

pub refuse-requires : goal.refuse-requires
refuse-requires c =
    let a = c.args in
    λ e. sheet_tested (order a.sheet.now a.lines a.count) _ _ (ap early (sym c.refuse-own.ensures) ∙ e)

pub returns-in_err-refuse : goal.returns-in_err-refuse
returns-in_err-refuse c =
    let a = c.args in
    let tested = c.in_err-refuse.ensures ∙ ap (index_refusal a.sheet.now a.index.now) c.refuse-own.ensures in
    rw (handed_on c.from_residual.ensures.1)
    (refused_by (order a.sheet.now a.lines a.count) a.book.now a.index.now a.k (sym tested))

pub fill_sheet-requires : goal.fill_sheet-requires
fill_sheet-requires c = let w = may (goal.at.fill_sheet-requires c).In_ok-refuse in (w.book, w.whole)

pub put_standing-requires : goal.put_standing-requires
put_standing-requires c =
    let w = may (goal.at.put_standing-requires c).In_ok-refuse in
    rw (c.fill_sheet.ensures, c.from.ensures)
    (record { sheet_value = (w.loaded, w.few, w.line); lines_value = w.known; count_bound = w.room })

pub fill-requires : goal.fill-requires
fill-requires c =
    let k = goal.at.fill-requires c in
    rw (made k.After-put_standing) (may k.In_ok-refuse).fits

pub returns : goal.returns
returns c =
    let a = c.args in
    let k = goal.at.returns c in
    let sheet = made k.After-put_standing in
    let counted = c.fill.ensures ∙ ap (λ s. placed (fresh_count s) a.index.now) sheet in
    ap₂ (λ s i. after_call (accepted tt) (beside_index s i)) sheet counted
    ∙ taken_back (order a.sheet.now a.lines a.count) a.book.now a.index.now a.k (none_due k.In_ok-refuse)
