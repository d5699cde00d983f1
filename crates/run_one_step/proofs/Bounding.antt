-- The table of bounds after a step: what it still says is right, and how high it is.
use mathlib.Core.Bool.{true, false}
use mathlib.Core.List.{List}
use mathlib.Core.Logic.{◌⊎◌, inl, inr, ⊎_elim}
use mathlib.Core.Option.{none}
use mathlib.Core.Path.{◌≡◌, sym, ap, ◌∙◌}
use Prim.Native.Nat.{ℕ, ◌+◌, ◌-◌, ◌≤◌, ◌<◌}
use native.Mathlib.Omega.{arith}
use borrow.Author.Tests.{eqb-true, eqb-false, ltb-true, ltb-false}
use lib.Dec.{eqb, ltb}
use lib.ListN.{length, get_or, drop}
use Rattle.model.specs.Code.{decode}
use Rattle.model.specs.Rules.{rewrite}
use Rattle.model.specs.Sheet.{nodes_in}
use Rattle.model.specs.Strategy.{least_i}
use Rattle.theory_forms.specs.Logic.{either}
use Rattle.theory_forms.specs.Sheets.{Formed}
use Rattle.locality.specs.Zones.{Holds, Twice}
use Rattle.locality.specs.Locality.{step_extent, step_before}
use Rattle.locality.specs.Locality.{level_length}
use Rattle.locality.specs.Inside.{spread_inside}
use Rattle.search_place.specs.declared.Redex.{Redex}
use Rattle.search_place.specs.Redexes.{Applies}
use Rattle.run_bounds.specs.BoundTables.{Bounds, High, Rises}
use Rattle.run_bounds_after.specs.declared.Plan.{Plan}
use Rattle.run_bounds_after.specs.Zoned.{after_step}
use Rattle.run_bounds_after.specs.Renewed.{Apart}
use Rattle.run_bounds_after.proofs.SheetZones as O
use Rattle.run_one_step.specs.Foreseen.{Foreseen}
use Rattle.run_one_step.specs.Followed.{Spared, Followed}
use Rattle.run_one_step.proofs.Quiets.{quiet_from, quiet_to}

module _ (s : List ℕ) (h : Formed s) (x : Redex) (a : Applies x s) {p : Plan} (f : Foreseen x (nodes_in s) p) (low up : List ℕ)
    (n : Followed x.rule p (after_step x (nodes_in s)) low up) where
  -- How far the entries after the zone have moved, and that the zone begins among the nodes.
  abbrev back : ℕ
  back = p.zone.old - p.zone.new

  small : p.zone.from ≤ length (nodes_in s)
  small =
      let w = step_extent x.rule x.place x.i x.j (nodes_in s) (O.one s h x a) (O.did s h x a) in
      omega (arith, f.zoned.before, w.order.from_old, w.old_within)

  -- A place is one of the three that are forgotten, or not.
  apart : (q : ℕ) → (get_or up q 0 ≡ 1) ⊎ Apart p q
  apart q = go (either (eqb q p.place)) (either (eqb q p.inner)) (either (eqb q p.outer))
    where
      go :
          (eqb q p.place ≡ true) ⊎ (eqb q p.place ≡ false) →
          (eqb q p.inner ≡ true) ⊎ (eqb q p.inner ≡ false) →
          (eqb q p.outer ≡ true) ⊎ (eqb q p.outer ≡ false) →
          (get_or up q 0 ≡ 1) ⊎ Apart p q
      go (inl e) d c = inl (ap (λ k. get_or up k 0) (eqb-true q p.place e) ∙ n.moved.at_place)
      go (inr e) (inl d) c = inl (ap (λ k. get_or up k 0) (eqb-true q p.inner d) ∙ n.moved.at_inner)
      go (inr e) (inr d) (inl c) = inl (ap (λ k. get_or up k 0) (eqb-true q p.outer c) ∙ n.moved.at_outer)
      go (inr e) (inr d) (inr c) = inr (record { place = eqb-false q p.place e; inner = eqb-false q p.inner d; outer = eqb-false q p.outer c })

  -- An entry is forgotten, or stayed before the zone, or was spared in it, or moved with its node.
  data Entry (q : ℕ) : Type 0 where
    forgotten : get_or up q 0 ≡ 1 → Entry q
    stayed : q < p.zone.from → Apart p q → get_or up q 0 ≡ get_or low q 0 → Entry q
    kept : q < p.zone.new → Spared x.rule p.place q (after_step x (nodes_in s)) low up → Entry q
    moved :
        q + (p.zone.old - p.zone.new) < length (nodes_in s) →
        drop q (after_step x (nodes_in s)) ≡ drop (q + (p.zone.old - p.zone.new)) (nodes_in s) →
        get_or up q 0 ≡ get_or low (q + (p.zone.old - p.zone.new)) 0 →
        Entry q

  entry : (q : ℕ) → q < length (after_step x (nodes_in s)) → Entry q
  entry q l = go (apart q) (either (ltb q p.zone.from)) (either (ltb q p.zone.new))
    where
      go :
          (get_or up q 0 ≡ 1) ⊎ Apart p q →
          (ltb q p.zone.from ≡ true) ⊎ (ltb q p.zone.from ≡ false) →
          (ltb q p.zone.new ≡ true) ⊎ (ltb q p.zone.new ≡ false) →
          Entry q
      go (inl e) b c = forgotten e
      go (inr e) (inl b) c = let lt = ltb-true q p.zone.from b in stayed lt e (n.moved.before q lt e)
      go (inr e) (inr b) (inl c) =
          let lt = ltb-true q p.zone.new c in
          ⊎_elim (λ y. forgotten y) (λ y. kept lt y) (n.zone q (ltb-false q p.zone.from b) lt)
      go (inr e) (inr b) (inr c) =
          let le = ltb-false q p.zone.new c in
          let w = f.zoned.after q le l in
          moved w.1 w.0 (n.moved.after q le (omega (arith, w.1, O.few s h x a)) e)

  -- By rules 9 and 10 there are as many nodes as before.
  level :
      {q : ℕ} →
      Spared x.rule p.place q (after_step x (nodes_in s)) low up →
      length (after_step x (nodes_in s)) ≡ length (nodes_in s)
  level y = level_length x.rule x.place x.i x.j (nodes_in s) (O.one s h x a) (O.did s h x a) (inl (y.nine, omega (arith, y.ten)))

  pub bounds_after : Bounds (nodes_in s) low → Bounds (after_step x (nodes_in s)) up
  bounds_after b q r l one lt = go (entry q l)
    where
      was : (k : ℕ) → k < length (nodes_in s) → r < get_or low k 0 → (i j : ℕ) → rewrite r i j (decode (drop k (nodes_in s))) ≡ none
      was k within less = quiet_from r k (decode (drop k (nodes_in s))) (b k r within one less)

      go : Entry q → none ≡ least_i r q (decode (drop q (after_step x (nodes_in s))))
      go (forgotten e) = absurd (omega arith)
      go (stayed c d same) =
          let deep : Holds q x.place (nodes_in s) → Twice q x.place (nodes_in s) =
          λ held. ⊎_elim (λ k. absurd (d.inner k)) (λ k. ⊎_elim (λ e. absurd (d.outer e)) (λ e. e) k.1) (f.nearest q held) in
          let other : q ≡ x.place → ⊥ = λ e. d.place (e ∙ sym f.place) in
          quiet_to r q (decode (drop q (after_step x (nodes_in s))))
          (step_before x.rule x.place x.i x.j (nodes_in s) (O.one s h x a) (O.did s h x a) q r (omega (arith, f.zoned.before)) other deep
          (was q (omega (arith, small)) (omega arith)))
      go (kept c y) =
          let still = level y in
          quiet_to r q (decode (drop q (after_step x (nodes_in s))))
          (spread_inside x.rule x.place x.i x.j (nodes_in s) (O.one s h x a) (O.did s h x a) y.nine y.ten q r (omega (arith, y.later, f.place))
          (omega (arith, (f.zoned.spread y.nine y.ten).1)) y.free (was q (omega arith) (omega (arith, y.same))))
      go (moved within there same) =
          quiet_to r q (decode (drop q (after_step x (nodes_in s))))
          (λ i j. ap (λ xs. rewrite r i j (decode xs)) there ∙ was (q + back) within (omega arith) i j)

  -- Before all that was forgotten the entries stay as they were, so that they are as high as they were before the step's place.
  untouched : (q : ℕ) → q < p.outer → get_or up q 0 ≡ get_or low q 0
  untouched q l =
      n.moved.before q (omega (arith, f.outer_before, f.inner_before, f.zoned.place_from))
      (record {
        place = λ e. omega (arith, f.place, f.outer_before, f.inner_before);
        inner = λ e. omega (arith, f.outer_before);
        outer = λ e. omega arith;
      })

  pub high_before : {r : ℕ} → High r 0 x.place low → High r 0 p.outer up
  high_before high q b l = let k = high q b (omega (arith, f.outer_before, f.inner_before)) in omega (arith, untouched q l)

  -- All entries are 1 at least; outside the places that were forgotten all are as high as they were.
  module _ {r : ℕ} (one : 1 ≤ r) (high : High r 0 (length (nodes_in s)) low) where
    pub high_one : High 1 0 (length (after_step x (nodes_in s))) up
    high_one q b l = go (entry q l)
      where
        go : Entry q → 1 ≤ get_or up q 0
        go (forgotten e) = omega arith
        go (stayed c d same) = let k = high q b (omega (arith, small)) in omega arith
        go (kept c y) = let still = level y in let k = high q b (omega arith) in omega (arith, y.same)
        go (moved within there same) = let k = high (q + back) (omega arith) within in omega arith

    pub high_outside :
        (q : ℕ) →
        q < length (after_step x (nodes_in s)) →
        (q < p.outer) ⊎ ((x.place < q) × (p.zone.new ≤ q)) →
        r ≤ get_or up q 0
    high_outside q l (inl e) =
        let k = high q (omega arith) (omega (arith, f.outer_before, f.inner_before, f.zoned.place_from, small)) in
        omega (arith, untouched q e)
    high_outside q l (inr e) =
        let v = f.zoned.after q e.1 l in
        let k = high (q + back) (omega arith) v.1 in
        let other : Apart p q = record {
          place = λ d. omega (arith, e.0, f.place);
          inner = λ d. omega (arith, e.0, f.inner_before);
          outer = λ d. omega (arith, e.0, f.inner_before, f.outer_before);
        } in
        let same = n.moved.after q e.1 (omega (arith, v.1, O.few s h x a)) other in
        omega arith

-- Where the bounds that were set back have risen to a floor, all are so high: the places that were looked at lie between the two
-- ends, cut off at the number of nodes.
pub high_all :
    (used from to first last : ℕ) (t u : List ℕ) (rule f : ℕ) →
    first ≤ from →
    (last ≡ to) ⊎ (last ≡ used) →
    ((q : ℕ) → q < used → (q < from) ⊎ (to ≤ q) → rule ≤ get_or t q 0) →
    Rises t u →
    High f first last u →
    f ≤ rule →
    High f 0 used u
high_all used from to first last t u rule f below a out rises high le q x l = go a (either (ltb q first)) (either (ltb q last))
  where
    outside : (q < from) ⊎ (to ≤ q) → f ≤ get_or u q 0
    outside side = let y = out q l side in let z = rises q in omega arith

    go :
        (last ≡ to) ⊎ (last ≡ used) →
        (ltb q first ≡ true) ⊎ (ltb q first ≡ false) →
        (ltb q last ≡ true) ⊎ (ltb q last ≡ false) →
        f ≤ get_or u q 0
    go c (inl y) z = outside (inl (omega (arith, ltb-true q first y)))
    go c (inr y) (inl z) = high q (ltb-false q first y) (ltb-true q last z)
    go (inl c) (inr y) (inr z) = outside (inr (omega (arith, ltb-false q last z)))
    go (inr c) (inr y) (inr z) = absurd (omega (arith, ltb-false q last z))

-- What lies before a cursor that is no further than the bounds that stayed is still past the floor.
pub high_ahead :
    (from cursor : ℕ) (t u : List ℕ) (rule f : ℕ) →
    High (rule + 1) 0 from t →
    cursor ≤ from →
    Rises t u →
    f ≤ rule →
    High (f + 1) 0 cursor u
high_ahead from cursor t u rule f high le rises below q a l =
    let x = high q a (omega arith) in
    let y = rises q in
    omega arith
