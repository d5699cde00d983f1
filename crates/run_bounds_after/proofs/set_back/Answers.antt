use Prim.Native.Nat.{◌≤◌, ◌<◌}
use native.Mathlib.Omega.{arith}
use Rattle.model.specs.Limits.{sheet_room}
use Rattle.model.specs.Sheet.{nodes_in}
use Rattle.run_bounds_after.proofs.BoundsSetBack.{set_kept, set_one}
use Rattle.run_bounds_after.proofs.set_back.Goals as goal
use Rattle.run_bounds_after.proofs.set_back.Goals.{In-loop-place, then-may_wake, else-may_wake}

-- The present place is within the table.
inside : (c : goal.In-loop-place) → c.loop-place.place < sheet_room
inside c =
    omega (arith, c.requires.from_le_to.1, c.loop-place-test.true, c.requires.measured.sheet.used)

pub offset_bounds-low-place : goal.offset_bounds-low-place
offset_bounds-low-place c = let w = inside (goal.at.offset_bounds-low-place c).In-loop-place in omega arith

pub bounds-low-place : goal.bounds-low-place
bounds-low-place c = omega (arith, inside (goal.at.bounds-low-place c).In-loop-place, c.requires.low_len)

pub loop-place-preserved : goal.loop-place-preserved
loop-place-preserved c =
    let a = c.args in
    let ns = nodes_in a.sheet.now in
    let old = c.loop-place.low in
    let so = c.loop-place.invariant in
    let after : a.from ≤ c.loop-place.place = omega arith in
    elim c.if-may_wake.branch [
      | then-may_wake w ↦ rw w.low-is (
          set_one ns a.low.now old so after
          (omega (arith, inside (goal.at.loop-place-preserved c).In-loop-place, c.requires.low_len))
          )
      | else-may_wake w ↦ rw w.low-is (set_kept ns a.low.now old so after (c.may_wake.ensures w.if-may_wake.false))
    ]
