-- `call_index::fill` meets its contract: no sheet, an index that is too short, and else it is filled.
use mathlib.Core.Path.{sym, ◌∙◌}
use borrow.Author.Tests.{ltb-false}
use Rattle.call_index.proofs.IndexAnswers.{fill_no_sheet, fill_short, filled}
use Rattle.call_index.proofs.fill.Goals as goal

pub returns-then-not-is_sheet : goal.returns-then-not-is_sheet
returns-then-not-is_sheet c = fill_no_sheet _ _ (sym c.is_sheet.ensures ∙ c.if-not-is_sheet.true)

pub is_short-requires : goal.is_short-requires
is_short-requires c = sym c.is_sheet.ensures ∙ c.if-not-is_sheet.false

pub returns-then-is_short : goal.returns-then-is_short
returns-then-is_short c = fill_short _ _ (sym c.is_sheet.ensures ∙ c.if-not-is_sheet.false) (sym c.is_short.ensures ∙ c.if-is_short.true)

pub fill-requires : goal.fill-requires
fill-requires c =
    (sym c.is_sheet.ensures ∙ c.if-not-is_sheet.false, ltb-false _ _ (sym c.is_short.ensures ∙ c.if-is_short.false))

pub returns : goal.returns
returns c =
    filled _ _ (sym c.is_sheet.ensures ∙ c.if-not-is_sheet.false) (sym c.is_short.ensures ∙ c.if-is_short.false) c.fill.ensures
