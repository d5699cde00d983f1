-- `call_keying::refuse` meets its contract: no sheet; lines not in order; and else what is tested after them.
use mathlib.Core.Bool.{true}
use mathlib.Core.Path.{◌≡◌, sym, ◌∙◌}
use native.Mathlib.Omega.{arith}
use Rattle.model.specs.Sheet.{is_sheet}
use Rattle.calls.specs.Conditions.{has_lines_in_order}
use Rattle.order_lines.specs.LineMeaning.{order}
use Rattle.order_check.proofs.Counted.{in_order_by}
use Rattle.call_keying.proofs.KeyingAnswers.{no_sheet, no_order, in_order, sheet_first}
use Rattle.call_keying.proofs.refuse.Goals as goal
use Rattle.call_keying.proofs.refuse.Goals.{After-are_in_order}

-- What the first test and the second answer.
module _ (c : goal.After-are_in_order) where
  good : is_sheet c.args.sheet.now ≡ true
  good = sym c.is_sheet.ensures ∙ c.if-not-is_sheet.false

  ordered : let a = c.args in has_lines_in_order (order a.sheet.now a.lines a.count) ≡ c.are_in_order.result
  ordered =
      in_order_by c.args.sheet.now c.args.lines c.args.count _ (omega arith) (sheet_first _ good).2
      ∙ sym c.are_in_order.ensures

pub returns-then-not-is_sheet : goal.returns-then-not-is_sheet
returns-then-not-is_sheet c = no_sheet _ _ (sym c.is_sheet.ensures ∙ c.if-not-is_sheet.true)

pub bounds-sheet-0 : goal.bounds-sheet-0
bounds-sheet-0 c = let f = sheet_first _ (sym c.is_sheet.ensures ∙ c.if-not-is_sheet.false) in omega arith

pub returns-then-not-are_in_order : goal.returns-then-not-are_in_order
returns-then-not-are_in_order c =
    let tested = (goal.at.returns-then-not-are_in_order c).After-are_in_order in
    no_order _ _ (good tested) (ordered tested ∙ c.if-not-are_in_order.true)

pub refuse_mark-requires : goal.refuse_mark-requires
refuse_mark-requires c = sym c.is_sheet.ensures ∙ c.if-not-is_sheet.false

pub returns : goal.returns
returns c =
    let a = c.args in
    let tested = (goal.at.returns c).After-are_in_order in
    c.refuse_mark.ensures
    ∙ in_order (order a.sheet.now a.lines a.count) _ (good tested) (ordered tested ∙ c.if-not-are_in_order.false)
