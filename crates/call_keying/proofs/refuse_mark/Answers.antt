-- `call_keying::refuse_mark` meets its contract: a full list, no such option, no room, or none of these.
use mathlib.Core.Path.{◌≡◌}
use Prim.Native.Nat.{◌+◌, ◌<◌}
use native.Mathlib.Omega.{arith}
use Rattle.model.specs.Limits.{literal_weight}
use Rattle.model.specs.Code.{weight}
use Rattle.model.specs.Sheet.{options_in, nodes_in}
use Rattle.theory_forms.specs.Sheets.{sheet_weight}
use Rattle.call_keying.proofs.KeyingAnswers.{list_full, no_option, no_room, room, sheet_first}
use Rattle.call_keying.proofs.refuse_mark.Goals as goal
use Rattle.call_keying.proofs.refuse_mark.Goals.{After-add_weights, Else-from-option}

-- Past the second test the option is one of the sheet's own.
known : (c : goal.Else-from-option) → let a = c.args in a.option < options_in a.sheet.now
known c =
    let s = c.args.sheet.now in
    let f = sheet_first s c.requires in
    omega (arith, c.from.ensures, c.if-from-option.false)

-- The weight with the mark's, as it was summed.
summed :
    (c : goal.After-add_weights) →
    let a = c.args in
    c.add_weights.result ≡ weight (nodes_in a.sheet.now) + literal_weight
summed c = omega (arith, c.add_weights.ensures.0, c.weigh_sheet-weight.ensures.0)

pub returns-then-count-eq-MOST_LINES : goal.returns-then-count-eq-MOST_LINES
returns-then-count-eq-MOST_LINES c = list_full _ _ _ c.if-count-eq-MOST_LINES.true

pub bounds-sheet-0 : goal.bounds-sheet-0
bounds-sheet-0 c = let f = sheet_first _ c.requires in omega arith

pub returns-then-from-option : goal.returns-then-from-option
returns-then-from-option c =
    let f = sheet_first _ c.requires in
    no_option _ _ _ c.if-count-eq-MOST_LINES.false (omega (arith, c.from.ensures, c.if-from-option.true))

pub weigh_sheet-weight-requires : goal.weigh_sheet-weight-requires
weigh_sheet-weight-requires c = let f = sheet_first _ c.requires in (omega arith, omega arith)

pub add_weights-requires : goal.add_weights-requires
add_weights-requires c = omega (arith, c.weigh_sheet-weight.ensures.0, sheet_weight _ c.requires)

pub returns-then-add_weights-gt-MOST_WEIGHT : goal.returns-then-add_weights-gt-MOST_WEIGHT
returns-then-add_weights-gt-MOST_WEIGHT c =
    let at = goal.at.returns-then-add_weights-gt-MOST_WEIGHT c in
    no_room _ _ _ c.if-count-eq-MOST_LINES.false (known at.Else-from-option)
    (omega (arith, summed at.After-add_weights, c.if-add_weights-gt-MOST_WEIGHT.true))

pub returns : goal.returns
returns c =
    let at = goal.at.returns c in
    room _ _ _ c.if-count-eq-MOST_LINES.false (known at.Else-from-option)
    (omega (arith, summed at.After-add_weights, c.if-add_weights-gt-MOST_WEIGHT.false))
