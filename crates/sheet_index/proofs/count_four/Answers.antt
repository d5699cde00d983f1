-- `sheet_index::count_four` meets its contract: four nodes one after another, from the last to the first.
use mathlib.Core.List.{List}
use mathlib.Core.Path.{◌≡◌, ap, ◌∙◌}
use Prim.Native.Nat.{ℕ, ◌+◌}
use native.Mathlib.Omega.{arith}
use borrow.Author.Rules.{rules}
use Rattle.theory_forms.specs.Sheets.{sheet_formed}
use Rattle.sheet_index.specs.Walk.{fresh_from}
use Rattle.sheet_index.proofs.Filling.{filled_start, filled_further}
use Rattle.sheet_index.proofs.count_four.Goals as goal

-- The places of four nodes, each after the one before it.
module _ (s : List ℕ) (p : ℕ) where
  before_last : fresh_from s (p + 4) ≡ fresh_from s (p + 3 + 1)
  before_last = ap (fresh_from s) (omega arith)

  before_third : fresh_from s (p + 3) ≡ fresh_from s (p + 2 + 1)
  before_third = ap (fresh_from s) (omega arith)

  before_second : fresh_from s (p + 2) ≡ fresh_from s (p + 1 + 1)
  before_second = ap (fresh_from s) (omega arith)

pub overflow_add-place : goal.overflow_add-place
overflow_add-place c = search (rules, (sheet_formed c.args.sheet.now c.requires.0).used)

pub count_node-requires : goal.count_node-requires
count_node-requires c =
    let a = c.args in
    (c.requires.0, omega (arith, c.requires.1), c.requires.2 ∙ before_last a.sheet.now a.place)

pub overflow_add-place-2 : goal.overflow_add-place-2
overflow_add-place-2 c = search (rules, (sheet_formed c.args.sheet.now c.requires.0).used)

pub count_node-requires-2 : goal.count_node-requires-2
count_node-requires-2 c =
    let a = c.args in
    let held = filled_start a.sheet.now (a.place + 3) a.index.now c.count_node.ensures in
    (c.requires.0, omega (arith, c.requires.1), held ∙ before_third a.sheet.now a.place)

pub overflow_add-place-3 : goal.overflow_add-place-3
overflow_add-place-3 c = search (rules, (sheet_formed c.args.sheet.now c.requires.0).used)

pub count_node-requires-3 : goal.count_node-requires-3
count_node-requires-3 c =
    let a = c.args in
    let held = filled_start a.sheet.now (a.place + 2) _ c.count_node-2.ensures in
    (c.requires.0, omega (arith, c.requires.1), held ∙ before_second a.sheet.now a.place)

pub count_node-requires-4 : goal.count_node-requires-4
count_node-requires-4 c =
    let a = c.args in
    (c.requires.0, omega (arith, c.requires.1), filled_start a.sheet.now (a.place + 1) _ c.count_node-3.ensures)

pub returns : goal.returns
returns c =
    let s = c.args.sheet.now in
    let p = c.args.place in
    let old = c.args.index.now in
    filled_further s p (p + 1) old
    (filled_further s (p + 1) (p + 2) old
    (filled_further s (p + 2) (p + 3) old c.count_node.ensures c.count_node-2.ensures)
    c.count_node-3.ensures)
    c.count_node-4.ensures
