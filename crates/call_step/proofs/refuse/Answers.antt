-- `call_step::refuse` meets its contract: no sheet, no rule, no such place, no step there, or none of these.
use mathlib.Core.Bool.{true}
use mathlib.Core.Path.{◌≡◌, sym, ◌∙◌}
use Prim.Native.Nat.{◌+◌}
use native.Mathlib.Omega.{arith}
use Rattle.common_lists.proofs.Lent.{lent_part}
use Rattle.model.specs.Rules.{is_rule}
use Rattle.model.specs.Sheet.{is_sheet}
use Rattle.calls.specs.Conditions.{applies}
use Rattle.theory_rewriting.specs.Bounds.{rule_within}
use Rattle.theory_rewriting.specs.SheetPlaces.{Lent, lend, sheet_long, used_here}
use Rattle.theory_forms.specs.Sheets.{sheet_formed}
use Rattle.call_step.proofs.StepAnswers.{no_sheet, no_rule, no_place, no_step, none_refused}
use Rattle.call_step.proofs.refuse.Goals as goal
use Rattle.call_step.proofs.refuse.Goals.{After-applies, Else-not-is_rule, Else-not-is_sheet, Else-from-place}

-- Past the first test it is a sheet; past the second the rule has a row.
good : (c : goal.Else-not-is_sheet) → is_sheet c.args.sheet.now ≡ true
good c = sym c.is_sheet.ensures ∙ c.if-not-is_sheet.false

ruled : (c : goal.Else-not-is_rule) → is_rule c.args.rule ≡ true
ruled c = sym c.is_rule.ensures ∙ c.if-not-is_rule.false

-- Past the third the place is one of the sheet's nodes, and the stretch from there on can be lent.
lent :
    (c : goal.Else-from-place) →
    let a = c.args in
    Lent a.sheet.now a.place
lent c =
    let a = c.args in
    lend a.sheet.now (sheet_formed _ (sym c.is_sheet.ensures ∙ c.if-not-is_sheet.false)) a.place
    (omega (arith, used_here a.sheet.now, c.from.ensures))

-- What was asked of the stretch is whether the step applies.
asked :
    (c : goal.After-applies) →
    let a = c.args in
    c.applies.result ≡ applies a.sheet.now a.rule a.place a.i a.j
asked c =
    let a = c.args in
    let formed = sheet_formed _ (sym c.is_sheet.ensures ∙ c.if-not-is_sheet.false) in
    let l = lend a.sheet.now formed a.place (omega (arith, used_here a.sheet.now, c.from.ensures)) in
    (rw (lent_part (2 + a.place) a.sheet.now) at c.applies.ensures) ∙ sym (l.asked a.rule a.i a.j)

pub returns-then-not-is_sheet : goal.returns-then-not-is_sheet
returns-then-not-is_sheet c =
    no_sheet _ _ _ _ _ (sym c.is_sheet.ensures ∙ c.if-not-is_sheet.true)

pub returns-then-not-is_rule : goal.returns-then-not-is_rule
returns-then-not-is_rule c =
    no_rule _ _ _ _ _ (good (goal.at.returns-then-not-is_rule c).Else-not-is_sheet) (sym c.is_rule.ensures ∙ c.if-not-is_rule.true)

pub bounds-sheet-1 : goal.bounds-sheet-1
bounds-sheet-1 c = omega (arith, sheet_long _ (sheet_formed _ (good (goal.at.bounds-sheet-1 c).Else-not-is_sheet)))

pub returns-then-from-place : goal.returns-then-from-place
returns-then-from-place c =
    let a = c.args in
    no_place _ _ _ _ _ (good (goal.at.returns-then-from-place c).Else-not-is_sheet) (ruled (goal.at.returns-then-from-place c).Else-not-is_rule)
    (omega (arith, used_here a.sheet.now, c.from.ensures, c.if-from-place.true))

pub slice_bounds-applies-count : goal.slice_bounds-applies-count
slice_bounds-applies-count c = let l = lent (goal.at.slice_bounds-applies-count c).Else-from-place in omega (arith, l.within, l.whole)

pub slice_bounds-applies-start : goal.slice_bounds-applies-start
slice_bounds-applies-start c = let l = lent (goal.at.slice_bounds-applies-start c).Else-from-place in omega (arith, l.within, l.whole)

pub applies-requires : goal.applies-requires
applies-requires c =
    let a = c.args in
    let r = rule_within a.rule (ruled (goal.at.applies-requires c).Else-not-is_rule) in
    let l = lent (goal.at.applies-requires c).Else-from-place in
    rw (lent_part (2 + a.place) a.sheet.now) (record { le_rule = (r.0, r.1, l.long); stretch = l.stretch })

pub returns-then-not-applies : goal.returns-then-not-applies
returns-then-not-applies c =
    no_step _ _ _ _ _ (good (goal.at.returns-then-not-applies c).Else-not-is_sheet) (ruled (goal.at.returns-then-not-applies c).Else-not-is_rule)
    (sym (asked (goal.at.returns-then-not-applies c).After-applies) ∙ c.if-not-applies.true)

pub returns : goal.returns
returns c =
    none_refused _ _ _ _ _ (good (goal.at.returns c).Else-not-is_sheet) (ruled (goal.at.returns c).Else-not-is_rule)
    (sym (asked (goal.at.returns c).After-applies) ∙ c.if-not-applies.false)
