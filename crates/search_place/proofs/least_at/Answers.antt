-- `search_place::least_at` meets its contract: the sheet and the table are lent from the place on.
use mathlib.Core.Path.{ap, ◌∙◌}
use native.Mathlib.Omega.{arith}
use Rattle.model.specs.Strategy.{least_i}
use Rattle.search_place.proofs.LentStretch.{LentAt, lent_at}
use Rattle.search_place.proofs.least_at.Goals as goal
use Rattle.search_place.proofs.least_at.Goals.{Start}

known : (c : goal.Start) → let a = c.args in LentAt a.sheet.now a.sizes.now a.place
known c =
    let a = c.args in
    lent_at a.place c.requires.measured c.requires.place_bound

pub overflow_add-from : goal.overflow_add-from
overflow_add-from c = omega (arith, (known (goal.at.overflow_add-from c).Start).within)

pub offset_bounds-sheet-from : goal.offset_bounds-sheet-from
offset_bounds-sheet-from c = omega (arith, (known (goal.at.offset_bounds-sheet-from c).Start).within)

pub slice_bounds-least_child-count : goal.slice_bounds-least_child-count
slice_bounds-least_child-count c = let k = known (goal.at.slice_bounds-least_child-count c).Start in omega (arith, k.within, k.whole)

pub slice_bounds-least_child-start : goal.slice_bounds-least_child-start
slice_bounds-least_child-start c = let k = known (goal.at.slice_bounds-least_child-start c).Start in omega (arith, k.within, k.whole)

pub offset_bounds-sizes-place : goal.offset_bounds-sizes-place
offset_bounds-sizes-place c = omega (arith, (known (goal.at.offset_bounds-sizes-place c).Start).within)

pub slice_bounds-least_child-count-2 : goal.slice_bounds-least_child-count-2
slice_bounds-least_child-count-2 c = omega (arith, (known (goal.at.slice_bounds-least_child-count-2 c).Start).within, c.requires.measured.long)

pub slice_bounds-least_child-start-2 : goal.slice_bounds-least_child-start-2
slice_bounds-least_child-start-2 c = omega (arith, (known (goal.at.slice_bounds-least_child-start-2 c).Start).within, c.requires.measured.long)

pub least_child-requires : goal.least_child-requires
least_child-requires c =
    let k = known (goal.at.least_child-requires c).Start in
    rw (k.lent, k.lent_table) record { le_rule = (c.requires.le_rule.0, c.requires.le_rule.1, k.long); stretch = k.stretch; sizes_of = k.sizes }

pub returns : goal.returns
returns c =
    let k = known (goal.at.returns c).Start in
    let a = c.args in
    (rw k.lent at (c.least_child.ensures a.place)) ∙ ap (least_i a.rule a.place) k.trees
