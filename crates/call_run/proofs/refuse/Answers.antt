-- `call_run::refuse` meets its contract: no sheet, or nothing.
use mathlib.Core.Path.{sym, ◌∙◌}
use Rattle.call_run.proofs.RunAnswers.{no_sheet, none_refused}
use Rattle.call_run.proofs.refuse.Goals as goal

pub returns-else-is_sheet : goal.returns-else-is_sheet
returns-else-is_sheet c = no_sheet _ (sym c.is_sheet.ensures ∙ c.if-is_sheet.false)

pub returns-then-is_sheet : goal.returns-then-is_sheet
returns-then-is_sheet c = none_refused _ (sym c.is_sheet.ensures ∙ c.if-is_sheet.true)
