use mathlib.Core.Path.{◌≡◌, subst}
use Prim.Native.Nat.{◌+◌, ◌-◌}
use native.Mathlib.Omega.{arith}
use Rattle.run_bounds.specs.BoundTables.{High}
use Rattle.run_bounds.proofs.RisingBounds.{raised_same, raised_again, high_more, high_join, high_rises, high_lower}
use Rattle.run_bounds.proofs.raise_all.Goals as goal
use Rattle.run_bounds.proofs.raise_all.Goals.{In-Some}

-- The bounds before the place that rises next have come to the floor.
ahead : (c : goal.In-Some) → High c.loop-place.floor c.args.from c.in-Some.place c.loop-place.low
ahead c =
    let i = c.loop-place.invariant in
    let same : c.loop-place.floor - 1 + 1 ≡ c.loop-place.floor = omega (arith, i.0.0) in
    high_join c.loop-place.start c.loop-place.low i.2
    (subst (λ k. High k c.loop-place.start c.in-Some.place c.loop-place.low) same c.in-Some.ensures.2)

pub first_waiting-requires : goal.first_waiting-requires
first_waiting-requires c =
    let p = c.requires in
    let i = c.loop-place.invariant in
    let w = i.3.tables in
    record {
      from_le_to = (omega (arith, i.1), omega (arith, p.from_le_to.1, w.long, w.measured.sheet.used), omega (arith, p.from_le_to.1, w.measured.sheet.used));
      rule_le_no_rule = omega (arith, p.le_limit.1, i.0);
    }

pub loop-place-init : goal.loop-place-init
loop-place-init c =
    let p = c.requires in
    ((p.le_limit.0, omega arith), (omega arith, p.from_le_to.0), (λ q a b. absurd (omega arith)), raised_same p.tabled)

pub raise-floor-requires : goal.raise-floor-requires
raise-floor-requires c =
    let p = c.requires in
    let i = c.loop-place.invariant in
    let w = c.in-Some.ensures in
    let one = p.high c.in-Some.place (omega (arith, i.1.0, w.0)) w.1 in
    let up = i.3.rises c.in-Some.place in
    record {
      le_limit = (i.0.0, omega (arith, p.le_limit.1, i.0.1));
      tabled = i.3.tables;
      place_bound = omega (arith, p.from_le_to.1, w.1);
      bound = omega arith;
    }

pub loop-place-preserved : goal.loop-place-preserved
loop-place-preserved c =
    let i = c.loop-place.invariant in
    let e = c.raise-floor.ensures in
    let w = c.in-Some.ensures in
    let new = c.raise-floor.new.low in
    let place = c.in-Some.place in
    let before = high_lower new e.lower_bound.1 (high_rises c.loop-place.low new e.raised.rises (ahead (goal.at.loop-place-preserved c).In-Some)) in (
      (e.lower_bound.0, omega (arith, e.lower_bound.1, i.0.1)),
      (omega (arith, i.1.0, w.0), omega (arith, w.1)),
      high_more place new before e.lower_bound.2,
      raised_again i.3 e.raised,
    )

pub returns : goal.returns
returns c =
    let i = c.loop-place.invariant in
    let same : c.loop-place.floor - 1 + 1 ≡ c.loop-place.floor = omega (arith, i.0.0) in
    record {
      lower_bound = (
        i.0.0,
        i.0.1,
        high_join c.loop-place.start c.loop-place.low i.2
            (subst (λ k. High k c.loop-place.start c.args.to c.loop-place.low) same c.in_default.ensures),
      );
      raised = i.3;
    }
