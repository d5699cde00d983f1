-- `sheet_index::count_eight` meets its contract: four nodes after four; or eight that are the same, a run of eight if they are marks.
use mathlib.Core.Path.{◌≡◌, sym, ap, ◌∙◌}
use Prim.Native.Nat.{◌+◌}
use native.Mathlib.Omega.{arith}
use borrow.Author.Rules.{rules}
use lib.ListN.{get_or}
use Rattle.model.specs.Code.{value}
use Rattle.theory_forms.specs.Scan.{is_literal}
use Rattle.theory_forms.specs.Sheets.{sheet_formed}
use Rattle.sheet_index.specs.Walk.{fresh_from}
use Rattle.sheet_index.proofs.Filling.{eight_marks, eight_others, unchanged, may_rise, run_met, filled_start, filled_further}
use Rattle.sheet_index.proofs.count_eight.Goals as goal

pub overflow_add-place : goal.overflow_add-place
overflow_add-place c = search (rules, (sheet_formed c.args.sheet.now c.requires.0).used)

pub eight_alike-requires : goal.eight_alike-requires
eight_alike-requires c =
    let form = sheet_formed c.args.sheet.now c.requires.0 in
    omega (arith, c.requires.1, form.whole, form.used)

pub overflow_add-place-then-eight_alike : goal.overflow_add-place-then-eight_alike
overflow_add-place-then-eight_alike c = search (rules, (sheet_formed c.args.sheet.now c.requires.0).used)

pub overflow_add-place-else-eight_alike : goal.overflow_add-place-else-eight_alike
overflow_add-place-else-eight_alike c = search (rules, (sheet_formed c.args.sheet.now c.requires.0).used)

-- The later four, then the earlier.
pub count_four-requires : goal.count_four-requires
count_four-requires c =
    let a = c.args in
    let after : a.place + 8 ≡ a.place + 4 + 4 = omega arith in
    (c.requires.0, omega (arith, c.requires.1), c.requires.2 ∙ ap (fresh_from a.sheet.now) after)

pub count_four-requires-else-eight_alike : goal.count_four-requires-else-eight_alike
count_four-requires-else-eight_alike c =
    let a = c.args in
    (c.requires.0, omega (arith, c.requires.1), filled_start a.sheet.now (a.place + 4) a.index.now c.count_four.ensures)

pub returns-else-eight_alike : goal.returns-else-eight_alike
returns-else-eight_alike c =
    let a = c.args in
    filled_further a.sheet.now a.place (a.place + 4) a.index.now c.count_four.ensures c.count_four-else-eight_alike.ensures

pub offset_bounds-sheet-place : goal.offset_bounds-sheet-place
offset_bounds-sheet-place c = search (rules, (sheet_formed c.args.sheet.now c.requires.0).used)

pub bounds-sheet-place : goal.bounds-sheet-place
bounds-sheet-place c =
    let form = sheet_formed c.args.sheet.now c.requires.0 in
    omega (arith, c.requires.1, form.whole, form.used)

pub overflow_cast-place : goal.overflow_cast-place
overflow_cast-place c = search (rules, (sheet_formed c.args.sheet.now c.requires.0).used)

pub mention_first-requires : goal.mention_first-requires
mention_first-requires c =
    let a = c.args in
    let r = c.requires in
    let each = c.from-each.ensures in
    let kind_here : is_literal (get_or a.sheet.now (2 + a.place) 0) ≡ c.is_mark.result = ap is_literal (sym each) ∙ sym c.is_mark.ensures in
    let run = eight_marks a.sheet.now r.0 a.place r.1 (sym c.eight_alike.ensures ∙ c.if-eight_alike.true) (kind_here ∙ c.if-is_mark.true) in
    may_rise a.sheet.now r.0 a.place 8 run (c.value_of.ensures ∙ ap value each) a.index.now r.2

pub returns-then-is_mark : goal.returns-then-is_mark
returns-then-is_mark c =
    let a = c.args in
    let r = c.requires in
    let each = c.from-each.ensures in
    let kind_here : is_literal (get_or a.sheet.now (2 + a.place) 0) ≡ c.is_mark.result = ap is_literal (sym each) ∙ sym c.is_mark.ensures in
    let run = eight_marks a.sheet.now r.0 a.place r.1 (sym c.eight_alike.ensures ∙ c.if-eight_alike.true) (kind_here ∙ c.if-is_mark.true) in
    run_met a.sheet.now r.0 a.place 8 run (c.value_of.ensures ∙ ap value each) a.index.now r.2 c.mention_first.ensures

pub returns-else-is_mark : goal.returns-else-is_mark
returns-else-is_mark c =
    let a = c.args in
    let r = c.requires in
    let kind_here : is_literal (get_or a.sheet.now (2 + a.place) 0) ≡ c.is_mark.result =
    ap is_literal (sym c.from-each.ensures) ∙ sym c.is_mark.ensures in
    let alike = sym c.eight_alike.ensures ∙ c.if-eight_alike.true in
    unchanged a.sheet.now (a.place + 8) a.index.now r.2 a.place
    (eight_others a.sheet.now r.0 a.place r.1 alike (kind_here ∙ c.if-is_mark.false))
