-- `sheet_index::count_node` meets its contract: a mark is a run of one.
use mathlib.Core.Path.{◌≡◌, refl, sym, ap, ◌∙◌}
use Prim.Native.Nat.{◌+◌}
use native.Mathlib.Omega.{arith}
use borrow.Author.Rules.{rules}
use lib.ListN.{get_or}
use Rattle.model.specs.Code.{value}
use Rattle.theory_forms.specs.Scan.{is_literal}
use Rattle.theory_forms.specs.Sheets.{sheet_formed}
use Rattle.sheet_index.proofs.Filling.{one_mark, one_other, unchanged, may_rise, run_met}
use Rattle.sheet_index.proofs.count_node.Goals as goal

pub overflow_add-place : goal.overflow_add-place
overflow_add-place c = search (rules, (sheet_formed c.args.sheet.now c.requires.0).used)

pub offset_bounds-sheet-place : goal.offset_bounds-sheet-place
offset_bounds-sheet-place c = search (rules, (sheet_formed c.args.sheet.now c.requires.0).used)

pub bounds-sheet-place : goal.bounds-sheet-place
bounds-sheet-place c =
    let form = sheet_formed c.args.sheet.now c.requires.0 in
    omega (arith, c.requires.1, form.whole, form.used)

pub overflow_cast-place : goal.overflow_cast-place
overflow_cast-place c = search (rules, (sheet_formed c.args.sheet.now c.requires.0).used)

pub mention_first-requires : goal.mention_first-requires
mention_first-requires c =
    let a = c.args in
    let r = c.requires in
    let x = c.from-x.ensures in
    let kind_here : is_literal (get_or a.sheet.now (2 + a.place) 0) ≡ c.is_mark.result = ap is_literal (sym x) ∙ sym c.is_mark.ensures in
    let run = one_mark a.sheet.now r.0 a.place r.1 refl (kind_here ∙ c.if-is_mark.true) in
    may_rise a.sheet.now r.0 a.place 1 run (c.value_of.ensures ∙ ap value x) a.index.now r.2

pub returns-then-is_mark : goal.returns-then-is_mark
returns-then-is_mark c =
    let a = c.args in
    let r = c.requires in
    let x = c.from-x.ensures in
    let kind_here : is_literal (get_or a.sheet.now (2 + a.place) 0) ≡ c.is_mark.result = ap is_literal (sym x) ∙ sym c.is_mark.ensures in
    let run = one_mark a.sheet.now r.0 a.place r.1 refl (kind_here ∙ c.if-is_mark.true) in
    run_met a.sheet.now r.0 a.place 1 run (c.value_of.ensures ∙ ap value x) a.index.now r.2 c.mention_first.ensures

pub returns-else-is_mark : goal.returns-else-is_mark
returns-else-is_mark c =
    let a = c.args in
    let r = c.requires in
    let kind_here : is_literal (get_or a.sheet.now (2 + a.place) 0) ≡ c.is_mark.result =
    ap is_literal (sym c.from-x.ensures) ∙ sym c.is_mark.ensures in
    unchanged a.sheet.now (a.place + 1) a.index.now r.2 a.place (one_other a.sheet.now r.0 a.place r.1 refl (kind_here ∙ c.if-is_mark.false))
