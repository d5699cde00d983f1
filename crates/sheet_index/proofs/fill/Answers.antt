use mathlib.Core.Bool.{true}
use mathlib.Core.List.{List, []}
use mathlib.Core.Path.{◌≡◌, ap, ◌∙◌}
use Prim.Native.Nat.{ℕ, ◌+◌, ◌-◌, ◌*◌, ◌/◌, ◌%◌}
use native.Mathlib.Omega.{arith}
use Rattle.model.specs.Base.{placed}
use Rattle.model.specs.Sheet.{options_in, used_in, is_sheet}
use Rattle.calls.specs.Index.{entries}
use Rattle.theory_forms.specs.Sheets.{sheet_formed}
use Rattle.sheet_index.specs.Walk.{fresh_from}
use Rattle.sheet_index.proofs.Filling.{begun, ended, filled_start, start_filled, filled_further}
use Rattle.sheet_index.proofs.fill.Goals as goal

-- What the index holds once it is cleared for as many options as the sheet has.
cleared :
    (s : List ℕ) (h : is_sheet s ≡ true) (old : List ℕ) {clean : List ℕ} {n : ℕ} →
    n ≡ options_in s →
    clean ≡ placed (entries 0 n []) old →
    clean ≡ placed (fresh_from s (used_in s)) old
cleared s h old many e = begun s h old (e ∙ ap (λ n. placed (entries 0 n []) old) many)

pub bounds-sheet-0 : goal.bounds-sheet-0
bounds-sheet-0 c = omega (arith, (sheet_formed c.args.sheet.now c.requires.0).whole)

pub clear-requires : goal.clear-requires
unfolding options_in
clear-requires c = omega (arith, c.from.ensures, c.requires.1)

pub bounds-sheet-1 : goal.bounds-sheet-1
bounds-sheet-1 c = omega (arith, (sheet_formed c.args.sheet.now c.requires.0).whole)

pub loop-eight-init : goal.loop-eight-init
unfolding used_in options_in
loop-eight-init c =
    let s = c.args.sheet.now in
    let old = c.args.index.now in
    let begin = cleared s c.requires.0 old c.from.ensures c.clear.ensures in
    let filled = start_filled s (used_in s) c.clear.new.index (filled_start s (used_in s) old begin) in
    let used = c.from-used.result in
    let last : used % 8 + 8 * (used / 8) ≡ used_in s = omega (arith, c.from-used.ensures) in
    rw last filled

pub count_eight-requires : goal.count_eight-requires
unfolding used_in
count_eight-requires c =
    let k = c.loop-eight.eight in
    let s = c.args.sheet.now in
    let few = c.from-used.result % 8 in
    let next : few + 8 * k ≡ few + 8 * (k - 1) + 8 = omega arith in (
      c.requires.0,
      omega (arith, c.from-used.ensures),
      filled_start s (few + 8 * k) c.clear.new.index c.loop-eight.invariant ∙ ap (fresh_from s) next,
    )

pub loop-eight-preserved : goal.loop-eight-preserved
loop-eight-preserved c =
    let k = c.loop-eight.eight in
    let few = c.from-used.result % 8 in
    filled_further c.args.sheet.now (few + 8 * (k - 1)) (few + 8 * k) c.clear.new.index c.loop-eight.invariant c.count_eight.ensures

pub count_few-requires : goal.count_few-requires
unfolding used_in
count_few-requires c =
    let l = c.loop-eight in
    let s = c.args.sheet.now in
    let few = c.from-used.result % 8 in
    let end : few + 8 * l.eight ≡ few = omega arith in (
      c.requires.0,
      omega (arith, c.from-used.ensures),
      filled_start s (few + 8 * l.eight) c.clear.new.index l.invariant ∙ ap (fresh_from s) end,
    )

pub returns : goal.returns
unfolding options_in
returns c =
    let l = c.loop-eight in
    let s = c.args.sheet.now in
    let old = c.args.index.now in
    let walked = filled_further s 0 (c.from-used.result % 8 + 8 * l.eight) c.clear.new.index l.invariant c.count_few.ensures in
    let begin = cleared s c.requires.0 old c.from.ensures c.clear.ensures in
    ended s old (filled_further s 0 (used_in s) old begin walked)
