-- `step::apply` meets its contract: the stretch from the place on is rewritten, and the live numbers are counted where it is due.
use mathlib.Core.Logic.{inl, inr}
use mathlib.Core.Path.{◌≡◌, ap}
use Prim.Native.Nat.{◌+◌, ◌-◌}
use native.Mathlib.Omega.{arith}
use borrow.Rule.Slice.PartMut.{mid_of, put_mid}
use lib.ListN.{length, length-drop}
use Rattle.common_lists.proofs.Lent.{lent_part}
use Rattle.model.specs.Limits.{sheet_length}
use Rattle.theory_reading.specs.Stretches.{live_short}
use Rattle.step.proofs.SheetSteps.{Ready, ready, back_long, back_sheet, back_level}
use Rattle.step.proofs.apply.Goals as goal
use Rattle.step.proofs.apply.Goals.{After-turn, Start}

known : (c : goal.Start) → let a = c.args in Ready a.sheet.now a.rule a.place a.i a.j
known c = let a = c.args in ready a.sheet.now c.requires.formed a.rule a.place a.i a.j c.requires.sheet_value

-- The sheet with the rewritten stretch is as long as before.
long : (c : goal.After-turn) → let a = c.args in
    length (put_mid (2 + a.place) (length a.sheet.now - (2 + a.place)) a.sheet.now c.turn.new.part) ≡ sheet_length
long c =
    let a = c.args in
    back_long a.sheet.now c.requires.formed a.rule a.place a.i a.j c.requires.sheet_value c.turn.ensures c.turn.auto.part

-- Past the turn: the sheet before it, and the sheet that comes back.
pub overflow_add-from : goal.overflow_add-from
overflow_add-from c = let k = known (goal.at.overflow_add-from c).Start in omega (arith, k.within)

pub offset_bounds-sheet-from : goal.offset_bounds-sheet-from
offset_bounds-sheet-from c = let k = known (goal.at.offset_bounds-sheet-from c).Start in omega (arith, k.within)

pub slice_bounds-turn-count : goal.slice_bounds-turn-count
slice_bounds-turn-count c = let k = known (goal.at.slice_bounds-turn-count c).Start in omega (arith, k.within, k.whole)

pub slice_bounds-turn-start : goal.slice_bounds-turn-start
slice_bounds-turn-start c = let k = known (goal.at.slice_bounds-turn-start c).Start in omega (arith, k.within, k.whole)

pub turn-requires : goal.turn-requires
turn-requires c =
    let a = c.args in
    let k = known (goal.at.turn-requires c).Start in
    rw (lent_part (2 + a.place) a.sheet.now) (record { le_rule = (k.low, k.high); stretch = k.stretch; headed = k.head; part_value = k.applied })

pub slice_bounds-live_count-count : goal.slice_bounds-live_count-count
slice_bounds-live_count-count c = omega (arith, long (goal.at.slice_bounds-live_count-count c).After-turn)

pub slice_bounds-live_count-start : goal.slice_bounds-live_count-start
slice_bounds-live_count-start c = omega (arith, long (goal.at.slice_bounds-live_count-start c).After-turn)

pub overflow_cast-sheet : goal.overflow_cast-sheet
overflow_cast-sheet c =
    let a = c.args in
    let new = put_mid (2 + a.place) (length a.sheet.now - (2 + a.place)) a.sheet.now c.turn.new.part in
    omega (
      arith,
      c.live_count.ensures,
      live_short (mid_of 2 (length new - 2) new),
      ap length (lent_part 2 new),
      length-drop 2 new,
      long (goal.at.overflow_cast-sheet c).After-turn,
    )

pub bounds-sheet-1 : goal.bounds-sheet-1
bounds-sheet-1 c = omega (arith, long (goal.at.bounds-sheet-1 c).After-turn)

pub returns : goal.returns
returns c =
    let a = c.args in
    back_level a.sheet.now c.requires.formed a.rule a.place a.i a.j c.requires.sheet_value c.turn.ensures (inr (omega arith))

pub returns-then-rule-lt13 : goal.returns-then-rule-lt13
returns-then-rule-lt13 c =
    let a = c.args in
    back_level a.sheet.now c.requires.formed a.rule a.place a.i a.j c.requires.sheet_value c.turn.ensures (inl (omega arith, omega arith))

pub returns-in_default : goal.returns-in_default
returns-in_default c =
    let a = c.args in
    rw c.live_count.ensures
    (back_sheet a.sheet.now c.requires.formed a.rule a.place a.i a.j c.requires.sheet_value c.turn.ensures)
