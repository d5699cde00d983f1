use mathlib.Core.Path.{◌≡◌, ap, ◌∙◌}
use Prim.Native.Nat.{◌+◌, ◌<◌}
use native.Mathlib.Omega.{arith}
use lib.ListN.{length, get_or, drop, length-drop}
use Rattle.model.specs.Limits.{sheet_room, sheet_length}
use Rattle.theory_reading.specs.Spans.{arity}
use Rattle.theory_rewriting.specs.SheetPlaces.{lend}
use Rattle.search_sizes.specs.TreeHops.{passed_first, hop_within, passed_more}
use Rattle.search_sizes.proofs.SizeEntries.{sheet_sizes}
use Rattle.run_bounds_after.proofs.ConstantChildren.{passed_all, child_inside, plain_child}
use Rattle.run_bounds_after.proofs.has_constant.Goals as goal
use Rattle.run_bounds_after.proofs.has_constant.Goals.{After-arity_of-k, In-loop, Start}

-- The place is within the sheet.
placed : (c : goal.Start) → (c.args.place < sheet_room) × (length c.args.sheet.now ≡ sheet_length)
placed c = let w = lend c.args.sheet.now c.requires.measured.sheet c.args.place c.requires.place_bound in (w.within, w.whole)

counted :
    (c : goal.After-arity_of-k) →
    let a = c.args in
    c.arity_of-k.result ≡ arity (get_or a.sheet.now (2 + a.place) 0)
counted c = c.arity_of-k.ensures.0 ∙ ap arity c.from.ensures

-- Child i is there, and begins within the sheet.
here :
    (c : goal.In-loop) →
    let a = c.args in
    c.loop.counter < arity (get_or a.sheet.now (2 + a.place) 0)
here c = omega (arith, (c.arity_of-k.ensures.0 ∙ ap arity c.from.ensures), c.loop-test.true)

inside : (c : goal.In-loop) → c.loop.at < sheet_room
inside c =
    child_inside c.requires.measured.sheet c.requires.place_bound c.loop.invariant.here (here c)

-- So the table has its size.
entry :
    (c : goal.In-loop) →
    let a = c.args in
    c.loop.at < length (drop 2 a.sheet.now)
entry c =
    omega (arith, inside c, length-drop 2 c.args.sheet.now, c.requires.measured.sheet.whole)

pub overflow_add-place : goal.overflow_add-place
overflow_add-place c = let w = placed (goal.at.overflow_add-place c).Start in omega arith

pub offset_bounds-sheet-place : goal.offset_bounds-sheet-place
offset_bounds-sheet-place c = let w = placed (goal.at.offset_bounds-sheet-place c).Start in omega arith

pub bounds-sheet-place : goal.bounds-sheet-place
bounds-sheet-place c = let w = placed (goal.at.bounds-sheet-place c).Start in omega (arith, w.1)

pub overflow_add-at : goal.overflow_add-at
overflow_add-at c = let w = placed (goal.at.overflow_add-at c).Start in omega arith

pub loop-init : goal.loop-init
loop-init c = passed_first

pub overflow_add-x : goal.overflow_add-x
overflow_add-x c = let w = inside (goal.at.overflow_add-x c).In-loop in omega arith

pub offset_bounds-sheet-at : goal.offset_bounds-sheet-at
offset_bounds-sheet-at c = let w = inside (goal.at.offset_bounds-sheet-at c).In-loop in omega arith

pub bounds-sheet-at : goal.bounds-sheet-at
bounds-sheet-at c =
    omega (arith, inside (goal.at.bounds-sheet-at c).In-loop, (placed (goal.at.bounds-sheet-at c).Start).1)

pub offset_bounds-sizes-at : goal.offset_bounds-sizes-at
offset_bounds-sizes-at c = let w = inside (goal.at.offset_bounds-sizes-at c).In-loop in omega arith

pub bounds-sizes-at : goal.bounds-sizes-at
bounds-sizes-at c =
    omega (arith, inside (goal.at.bounds-sizes-at c).In-loop, c.requires.measured.long)

pub overflow_add-at-in-loop : goal.overflow_add-at-in-loop
overflow_add-at-in-loop c =
    let w = hop_within (sheet_sizes c.requires.measured) (entry (goal.at.overflow_add-at-in-loop c).In-loop) c.from-at.ensures in
    omega (arith, length-drop 2 c.args.sheet.now, c.requires.measured.sheet.whole)

pub loop-preserved : goal.loop-preserved
loop-preserved c =
    let p = c.requires in
    let there = here (goal.at.loop-preserved c).In-loop in
    let none_here = plain_child p.measured.sheet p.place_bound c.loop.invariant.here there (λ e. omega arith) (λ e. omega arith) in
    passed_more (sheet_sizes p.measured) (entry (goal.at.loop-preserved c).In-loop) c.from-at.ensures c.loop.invariant none_here

pub returns : goal.returns
returns c e =
    passed_all c.requires.measured.sheet c.requires.place_bound c.loop.invariant.before
    (omega (arith, counted (goal.at.returns c).After-arity_of-k))
