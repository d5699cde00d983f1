-- `run_bounds_after::child_place` meets its contract: the child's place within the stretch from the node on.
use mathlib.Core.Path.{◌≡◌, ap, ◌∙◌}
use Prim.Native.Nat.{◌+◌}
use native.Mathlib.Omega.{arith}
use lib.ListN.{drop}
use Rattle.common_lists.proofs.Lent.{lent_part}
use Rattle.theory_reading.specs.Spans.{child_at}
use Rattle.run_bounds_after.proofs.ZoneChildren.{Here, here}
use Rattle.run_bounds_after.proofs.child_place.Goals as goal
use Rattle.run_bounds_after.proofs.child_place.Goals.{After-child_at, Start}

known : (c : goal.Start) → Here c.args.sheet.now c.args.place c.args.i
known c = here c.args.sheet.now c.requires.formed c.args.place c.args.i c.requires.i_bound

found :
    (c : goal.After-child_at) →
    let a = c.args in
    c.child_at.result ≡ child_at a.i (drop (2 + a.place) a.sheet.now)
found c =
    let a = c.args in
    c.child_at.ensures.0 ∙ ap (child_at a.i) (lent_part (2 + a.place) a.sheet.now)

pub overflow_add-from : goal.overflow_add-from
overflow_add-from c = let k = known (goal.at.overflow_add-from c).Start in omega (arith, k.within, k.few)

pub offset_bounds-sheet-from : goal.offset_bounds-sheet-from
offset_bounds-sheet-from c = let k = known (goal.at.offset_bounds-sheet-from c).Start in omega (arith, k.within, k.few)

pub slice_bounds-child_at-count : goal.slice_bounds-child_at-count
slice_bounds-child_at-count c = let k = known (goal.at.slice_bounds-child_at-count c).Start in omega (arith, k.within, k.few, k.whole)

pub slice_bounds-child_at-start : goal.slice_bounds-child_at-start
slice_bounds-child_at-start c = let k = known (goal.at.slice_bounds-child_at-start c).Start in omega (arith, k.within, k.few, k.whole)

pub child_at-requires : goal.child_at-requires
child_at-requires c =
    let k = known (goal.at.child_at-requires c).Start in
    rw (lent_part (2 + c.args.place) c.args.sheet.now) (k.long, k.short, k.index)

pub overflow_add-result : goal.overflow_add-result
overflow_add-result c =
    let k = known (goal.at.overflow_add-result c).Start in
    omega (arith, found (goal.at.overflow_add-result c).After-child_at, k.inside)

pub returns : goal.returns
returns c =
    let k = known (goal.at.returns c).Start in
    (omega (arith, found (goal.at.returns c).After-child_at, k.at), omega (arith, found (goal.at.returns c).After-child_at, k.inside))
