-- One step of the sheet and of both tables.
use mathlib.Core.List.{List}
use mathlib.Core.Logic.{inl, inr, ⊎_elim}
use mathlib.Core.Path.{◌≡◌, sym, ap, subst, ◌∙◌}
use Prim.Native.Nat.{ℕ, ◌+◌, ◌-◌, ◌≤◌, ◌<◌}
use native.Mathlib.Omega.{arith}
use lib.ListN.{length}
use Rattle.model.specs.Limits.{sheet_room}
use Rattle.model.specs.Sheet.{used_in, nodes_in}
use Rattle.theory_forms.specs.Sheets.{Formed}
use Rattle.locality.specs.Zones.{zone}
use Rattle.theory_rewriting.specs.Turns.{family_9}
use Rattle.locality.specs.Locality.{step_extent}
use Rattle.search_sizes.specs.SizeTables.{Measured}
use Rattle.search_place.specs.declared.Redex.{Redex}
use Rattle.search_place.specs.Redexes.{Applies, stepped_by}
use Rattle.run_bounds.specs.BoundTables.{High, ComeTo}
use Rattle.run_bounds_after.specs.declared.Plan.{Plan}
use Rattle.run_bounds_after.specs.Zoned.{after_step}
use Rattle.run_bounds_after.specs.Renewed.{Planned}
use Rattle.run_bounds_after.proofs.SheetZones as O
use Rattle.run_one_step.specs.declared.Reach.{Reach}
use Rattle.run_one_step.specs.Foreseen.{Foreseen}
use Rattle.run_one_step.specs.Followed.{Followed}
use Rattle.run_one_step.specs.SizesLeft.{SizesLeft}
use Rattle.run_one_step.specs.MovedOn.{MovedOn}
use Rattle.run_one_step.proofs.Arities.{sizes_still}
use Rattle.run_one_step.proofs.Bounding.{bounds_after, high_before, high_one, high_outside}
use Rattle.run_one_step.proofs.Sizing.{sizes_past, sizes_outside}
use Rattle.run_one_step.proofs.SizesMoved.{sizes_fall, sizes_moved}
use Rattle.run_one_step.proofs.Stepping.{After, after}

-- A step from one sheet to another, with what was seen ahead of it.
module _ {s t low : List ℕ} {x : Redex} (c : ComeTo x.rule x.place s t low) (a : Applies x s) {p : Plan}
    (f : Foreseen x (nodes_in s) p) {u : List ℕ} (e : u ≡ stepped_by x s) where
  h : Formed s
  h = c.tables.measured.sheet

  now : After s x
  now = after s h x a

  pub formed_after : Formed u
  formed_after = rw e now.sheet

  same : nodes_in u ≡ after_step x (nodes_in s)
  same = ap nodes_in e ∙ now.nodes

  used : used_in u ≡ length (after_step x (nodes_in s))
  used = ap used_in e ∙ now.used

  -- But for rule 14 the zone tells how many nodes fewer there are.
  pub nodes_fewer : (x.rule ≡ 14 → ⊥) → used_in (stepped_by x s) + (p.zone.old - p.zone.new) ≡ used_in s
  nodes_fewer other = omega (arith, now.used, f.zoned.shift other, f.zoned.new_old, h.count)

  pub planned : Planned p
  planned =
      let z = f.zoned in
      record {
        from_new = z.from_new;
        new_old = z.new_old;
        old_within = z.old_within;
        place_within = omega (arith, f.place, O.within s h x a, h.used);
        inner_before = omega (arith, f.place, f.inner_before);
        outer_before = f.outer_before;
      }

  -- The sizes that are still right.
  pub sizes_left : (most : ℕ) → used_in s ≤ most → used_in u ≤ most → most ≤ sheet_room → SizesLeft x.rule x.place most p.zone u t
  sizes_left most before behind few =
      let each = c.tables.measured.each in
      record {
        whole = formed_after.whole;
        long = c.tables.measured.long;
        order = f.zoned.from_new;
        new_old = f.zoned.new_old;
        old_within = f.zoned.old_within;
        place_within = omega (arith, O.within s h x a, h.used);
        same = λ low top. sizes_still s u h formed_after x a same low top t each;
        outside = λ even. sizes_outside s u h formed_after x a same f.zoned even t each;
        falls = λ other. sizes_fall s u h formed_after x a same f.zoned other t each;
        moved = λ other. sizes_moved s u h formed_after x a same f.zoned other t each;
        few = few;
        past = sizes_past s u h formed_after t each most before behind;
      }

  -- The zone of rules 9 and 10 is the tree at the place, which ends among the nodes after the step.
  pub spread_zone : 9 ≤ x.rule → x.rule ≤ 10 → (p.zone.from ≡ p.place) × (p.place < p.zone.new) × (p.zone.new ≤ used_in u)
  unfolding zone
  spread_zone low top =
      let w = step_extent x.rule x.place x.i x.j (nodes_in s) (O.one s h x a) (O.did s h x a) in
      let its = ap (λ k. (zone k x.place x.i x.j (nodes_in s) (after_step x (nodes_in s))).new) (family_9 x.rule low top) in
      let end = f.zoned.spread low top in
      (end.0 ∙ sym f.place, omega (arith, end.1, f.place, O.tall s h x a (omega arith)), omega (arith, end.1, used, w.new_within))

  -- The tables after it.
  module _ {v up : List ℕ} (measured : Measured u v) (long : length up ≡ sheet_room) (followed : Followed x.rule p (nodes_in u) low up) where
    n : Followed x.rule p (after_step x (nodes_in s)) low up
    n = subst (λ ms. Followed x.rule p ms low up) same followed

    all_high : High x.rule 0 (length (nodes_in s)) low
    all_high = subst (λ k. High x.rule 0 k low) (sym h.count) c.high

    pub moved_on : {r : Reach} → r.from ≡ p.outer → x.place + 1 ≤ r.to → p.zone.new ≤ r.to → MovedOn x.rule r u v up
    moved_on {r} from past_place past_zone =
        let right = bounds_after s h x a f low up n c.tables.right in
        let ones = high_one s h x a f low up n c.some_rule all_high in
        let outside = high_outside s h x a f low up n c.some_rule all_high in
        record {
          tables = record {
            measured = measured;
            long = long;
            right = rw same right;
          };
          ones = rw used ones;
          order = omega (arith, f.outer_before, f.inner_before);
          ahead = rw from (high_before s h x a f low up n c.past);
          outside = λ q l side. outside q (omega (arith, used)) (⊎_elim (λ k. inl (omega arith)) (λ k. inr (omega arith, omega arith)) side);
        }
