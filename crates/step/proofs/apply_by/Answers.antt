-- `step::apply_by` meets its contract: the stretch from the place on is rewritten, and the used count falls, or the live numbers are counted.
use mathlib.Core.Path.{◌≡◌, sym, ap, ◌∙◌}
use Prim.Native.Nat.{◌+◌, ◌-◌}
use native.Mathlib.Omega.{arith}
use borrow.Rule.Slice.PartMut.{mid_of, put_mid}
use lib.ListN.{length, length-drop}
use Rattle.model.specs.Limits.{sheet_length}
use Rattle.model.specs.Results.{stepped}
use Rattle.model.specs.Sheet.{used_in}
use Rattle.theory_reading.specs.Stretches.{live_short}
use Rattle.theory_rewriting.specs.SheetPlaces.{used_here}
use Rattle.common_lists.proofs.Lent.{lent_part}
use Rattle.step.proofs.SheetSteps.{Ready, ready, back_long, back_sheet, back_count}
use Rattle.step.proofs.apply_by.Goals as goal
use Rattle.step.proofs.apply_by.Goals.{After-turn, Else-rule-eq14, Start}

-- What holds of the stretch from the place on.
known : (c : goal.Start) → let a = c.args in Ready a.sheet.now a.rule a.place a.i a.j
known c = let a = c.args in ready a.sheet.now c.requires.formed a.rule a.place a.i a.j c.requires.sheet_value

-- The sheet with the rewritten stretch is as long as before.
long : (c : goal.After-turn) → let a = c.args in
    length (put_mid (2 + a.place) (length a.sheet.now - (2 + a.place)) a.sheet.now c.turn.new.part) ≡ sheet_length
long c =
    let a = c.args in
    back_long a.sheet.now c.requires.formed a.rule a.place a.i a.j c.requires.sheet_value c.turn.ensures c.turn.auto.part

-- The used count to come, where the rule is not 14.
to_come : (c : goal.Else-rule-eq14) → let a = c.args in
    used_in (stepped a.sheet.now a.rule a.place a.i a.j) + a.fewer ≡ c.from-used.result
to_come c =
    c.requires.fewer_value (λ e. omega arith) ∙ used_here c.args.sheet.now ∙ sym c.from-used.ensures

pub overflow_add-from : goal.overflow_add-from
overflow_add-from c = let k = known (goal.at.overflow_add-from c).Start in omega (arith, k.within)

pub offset_bounds-sheet-from : goal.offset_bounds-sheet-from
offset_bounds-sheet-from c = let k = known (goal.at.offset_bounds-sheet-from c).Start in omega (arith, k.within)

pub slice_bounds-turn-count : goal.slice_bounds-turn-count
slice_bounds-turn-count c = let k = known (goal.at.slice_bounds-turn-count c).Start in omega (arith, k.within, k.whole)

pub slice_bounds-turn-start : goal.slice_bounds-turn-start
slice_bounds-turn-start c = let k = known (goal.at.slice_bounds-turn-start c).Start in omega (arith, k.within, k.whole)

pub turn-requires : goal.turn-requires
turn-requires c =
    let a = c.args in
    let k = known (goal.at.turn-requires c).Start in
    rw (lent_part (2 + a.place) a.sheet.now) (record { le_rule = (k.low, k.high); stretch = k.stretch; headed = k.head; part_value = k.applied })

pub overflow_cast-sheet : goal.overflow_cast-sheet
overflow_cast-sheet c =
    let a = c.args in
    let new = put_mid (2 + a.place) (length a.sheet.now - (2 + a.place)) a.sheet.now c.turn.new.part in
    omega (
      arith,
      c.live_count.ensures,
      live_short (mid_of 2 (length new - 2) new),
      ap length (lent_part 2 new),
      length-drop 2 new,
      long (goal.at.overflow_cast-sheet c).After-turn,
    )

pub overflow_sub-sheet : goal.overflow_sub-sheet
overflow_sub-sheet c = omega (arith, to_come (goal.at.overflow_sub-sheet c).Else-rule-eq14)

pub returns-then-rule-eq14 : goal.returns-then-rule-eq14
returns-then-rule-eq14 c =
    let a = c.args in
    rw c.live_count.ensures
    (back_sheet a.sheet.now c.requires.formed a.rule a.place a.i a.j c.requires.sheet_value c.turn.ensures)

pub returns-else-rule-eq14 : goal.returns-else-rule-eq14
returns-else-rule-eq14 c =
    let a = c.args in
    back_count a.sheet.now c.requires.formed a.rule a.place a.i a.j c.requires.sheet_value c.turn.ensures (c.from-used.result - a.fewer)
    (omega (arith, to_come (goal.at.returns-else-rule-eq14 c).Else-rule-eq14)) (omega (arith, long (goal.at.returns-else-rule-eq14 c).After-turn))
