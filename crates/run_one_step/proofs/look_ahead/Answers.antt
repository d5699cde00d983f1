-- `run_one_step::look_ahead` meets its contract: the nearest holder, the nearest before it, and the zone.
use mathlib.Core.Path.{refl}
use Prim.Native.Nat.{◌≤◌, ◌<◌}
use native.Mathlib.Omega.{arith}
use Rattle.model.specs.Limits.{sheet_room}
use Rattle.model.specs.Sheet.{used_in}
use Rattle.run_bounds_after.proofs.SheetZones.{within}
use Rattle.run_one_step.proofs.Stepping.{nearest_two}
use Rattle.run_one_step.proofs.look_ahead.Goals as goal
use Rattle.run_one_step.proofs.look_ahead.Goals.{Start}

-- The place is one of the nodes.
here : (c : goal.Start) → (c.args.redex.place < used_in c.args.sheet.now) × (used_in c.args.sheet.now ≤ sheet_room)
here c = let h = c.requires.measured.sheet in (within c.args.sheet.now h c.args.redex c.requires.applies, h.used)

pub holder-inner-requires : goal.holder-inner-requires
holder-inner-requires c =
    let w = here (goal.at.holder-inner-requires c).Start in
    (omega (arith, c.requires.measured.long), omega (arith, c.requires.measured.long), omega arith, omega arith)

pub holder-outer-requires : goal.holder-outer-requires
holder-outer-requires c =
    let p = c.requires in
    let w = here (goal.at.holder-outer-requires c).Start in (
      omega (arith, p.measured.long, c.holder-inner.ensures.upper_bound.0),
      omega (arith, p.measured.long),
      c.holder-inner.ensures.upper_bound.0,
      omega arith,
    )

pub returns : goal.returns
returns c =
    let e = c.holder-inner.ensures in
    let f = c.holder-outer.ensures in
    record {
      zoned = c.zone_of-zone.ensures;
      place = refl;
      inner_before = e.upper_bound.0;
      outer_before = f.upper_bound.0;
      nearest = nearest_two c.requires.measured c.args.redex.place c.holder-inner.result c.holder-outer.result
          (here (goal.at.returns c).Start).0 e.upper_bound.1 e.by_index f.upper_bound.1 f.by_index;
    }
