-- The table of sizes after a step of any rule but 14: the sizes after the zone move with their nodes, and those of the trees that hold
-- the place fall by as much as the nodes grow fewer.
use mathlib.Core.Bool.{true, false}
use mathlib.Core.List.{List}
use mathlib.Core.Logic.{◌⊎◌, inl, inr, ⊎_elim}
use mathlib.Core.Path.{◌≡◌, sym, ap, ◌∙◌}
use Prim.Native.Nat.{ℕ, ◌+◌, ◌-◌, ◌≤◌, ◌<◌}
use native.Mathlib.Omega.{arith}
use borrow.Author.Tests.{eqb-true, eqb-false, ltb-true, ltb-false}
use lib.Dec.{eqb, ltb}
use lib.ListN.{length, get_or, drop, length-drop}
use Rattle.model.specs.Code.{Node}
use Rattle.model.specs.Limits.{sheet_room}
use Rattle.model.specs.Sheet.{used_in, nodes_in}
use Rattle.theory_forms.specs.Logic.{either, pick_true, pick_false}
use Rattle.theory_forms.specs.Sheets.{Formed}
use Rattle.theory_reading.specs.Spans.{span}
use Rattle.locality.specs.Zones.{tree_length, Holds}
use Rattle.locality.specs.Locality.{step_extent, same_length, length_before, length_holding, length_at}
use Rattle.search_sizes.specs.SizeTables.{SizesFrom}
use Rattle.search_sizes.specs.TreeHops.{span_one, span_zero}
use Rattle.search_place.specs.declared.Redex.{Redex}
use Rattle.search_place.specs.Redexes.{Applies}
use Rattle.run_bounds_after.specs.declared.Zone.{Zone}
use Rattle.run_bounds_after.specs.Zoned.{after_step, Zoned}
use Rattle.run_bounds_after.specs.Resized.{Falls, Resized}
use Rattle.run_bounds_after.proofs.ZoneChildren.{size_here}
use Rattle.run_bounds_after.proofs.SheetZones as O
use Rattle.run_one_step.proofs.Sizing.{zeros_here}

module _ (s u : List ℕ) (h : Formed s) (k : Formed u) (x : Redex) (a : Applies x s) (same : nodes_in u ≡ after_step x (nodes_in s)) {z : Zone}
    (w : Zoned x (nodes_in s) z) (fewer : x.rule ≡ 14 → ⊥) (t : List ℕ) (sizes : SizesFrom 0 (drop 2 s) t) where
  abbrev ns : List Node
  ns = nodes_in s

  abbrev ms : List Node
  ms = after_step x (nodes_in s)

  abbrev p : ℕ
  p = x.place

  abbrev back : ℕ
  back = z.old - z.new

  -- The numbers of nodes before and after the step: the zone tells how many fewer they are.
  counts : (length (nodes_in s) ≡ used_in s) × (length (after_step x (nodes_in s)) ≡ used_in u) × (used_in u + (z.old - z.new) ≡ used_in s)
  counts =
      let now : length ms ≡ used_in u = ap length (sym same) ∙ k.count in
      (h.count, now, omega (arith, h.count, w.shift fewer, w.new_old))

  long : length (drop 2 s) ≡ sheet_room
  long = omega (arith, length-drop 2 s, h.whole)

  -- An entry of the table before the step, and the size to come to.
  was : (q : ℕ) → q < used_in s → get_or t q 0 ≡ tree_length q (nodes_in s)
  was q l = sizes q (omega arith) (omega (arith, long, h.used)) ∙ size_here s h q l

  is : (q : ℕ) → q < used_in u → span 1 (drop q (drop 2 u)) ≡ tree_length q (after_step x (nodes_in s))
  is q l = size_here u k q l ∙ ap (tree_length q) same

  -- The places before the zone are places of nodes, before and after.
  inside : (q : ℕ) → q < z.from → (q < used_in s) × (q < used_in u)
  inside q l =
      let e = step_extent x.rule p x.i x.j ns (O.one s h x a) (O.did s h x a) in
      (omega (arith, w.before, e.order.from_old, e.old_within, counts.0), omega (arith, w.before, e.order.from_new, e.new_within, counts.1))

  -- A tree that reaches past the place, from the place itself or from one before it, loses as many nodes as the sheet.
  lost : (q : ℕ) → q < used_in s → q ≤ x.place → x.place < q + get_or t q 0 →
      tree_length q (after_step x (nodes_in s)) + (z.old - z.new) ≡ get_or t q 0
  lost q l le reaches =
      let one = O.one s h x a in
      let did = O.did s h x a in
      let c = counts in
      ⊎_elim
      (λ e. let here : q ≡ p = eqb-true q p e in
      let at = length_at x.rule p x.i x.j ns one did in
      let both : tree_length q ms + length ns ≡ tree_length q ns + length ms =
      ap (λ n. tree_length n ms + length ns) here ∙ at ∙ ap (λ n. tree_length n ns + length ms) (sym here) in
      omega (arith, was q l, both, c.0, c.1, c.2))
      (λ e. let off = eqb-false q p e in
      let lt : q < p = omega (arith, off) in
      let both = length_holding x.rule p x.i x.j ns one did q (lt, omega (arith, was q l)) in
      omega (arith, was q l, both, c.0, c.1, c.2))
      (either (eqb q p))

  pub sizes_fall : (to : ℕ) → to ≤ z.from → to ≤ x.place + 1 → Falls to x.place (z.old - z.new) t
  sizes_fall to le past =
      record {
        short = λ q l. let i = (inside q (omega arith)).0 in
            omega (arith, was q i, size_here s h q i, span_one q (drop 2 s) (omega (arith, long, h.used)), long);
        enough = λ q l reaches. omega (arith, lost q (inside q (omega arith)).0 (omega arith) reaches);
      }

  -- The tree at a place before the zone that does not hold the step's place keeps its length.
  kept : (q : ℕ) → q < z.from → (q ≡ x.place → ⊥) → (Holds q x.place (nodes_in s) → ⊥) →
      tree_length q (after_step x (nodes_in s)) ≡ tree_length q (nodes_in s)
  kept q l other out = length_before x.rule p x.i x.j ns (O.one s h x a) (O.did s h x a) q (omega (arith, w.before)) other out

  -- After the nodes each size is 1.
  past_nodes : (q : ℕ) → used_in u ≤ q → q < sheet_room → span 1 (drop q (drop 2 u)) ≡ 1
  past_nodes q le l = ap (span 1) (zeros_here u k q le (omega arith)) ∙ span_zero (sheet_room - q) (omega arith)

  was_past : (q : ℕ) → used_in s ≤ q → q < sheet_room → get_or t q 0 ≡ 1
  was_past q le l = sizes q (omega arith) (omega (arith, long)) ∙ ap (span 1) (zeros_here s h q le (omega arith)) ∙
      span_zero (sheet_room - q) (omega arith)

  module _ (to : ℕ) (v : List ℕ) (least : (to ≤ z.from) × (to ≤ x.place + 1) × ((to ≡ z.from) ⊎ (to ≡ x.place + 1)))
      (r : Resized to x.place z.new z.old t v) where
    -- Before the zone.
    front : (q : ℕ) → q < z.from → get_or v q 0 ≡ span 1 (drop q (drop 2 u))
    front q l = go (either (ltb q to)) (either (ltb p (q + get_or t q 0)))
      where
        n : ℕ
        n = get_or t q 0

        i : (q < used_in s) × (q < used_in u)
        i = inside q l

        go : (ltb q to ≡ true) ⊎ (ltb q to ≡ false) → (ltb p (q + get_or t q 0) ≡ true) ⊎ (ltb p (q + get_or t q 0) ≡ false) →
            get_or v q 0 ≡ span 1 (drop q (drop 2 u))
        go (inl e) (inl d) =
            let lt = ltb-true q to e in
            let gone = lost q i.0 (omega (arith, least.1)) (ltb-true p (q + n) d) in
            r.before q lt ∙ pick_true (ltb p (q + n)) (n - back) n d ∙ omega (arith, gone, is q i.1)
        go (inl e) (inr d) =
            let lt = ltb-true q to e in
            let short = ltb-false p (q + n) d in
            let same_size =
            kept q l (λ c. omega (arith, c, size_here s h q i.0, was q i.0, span_one q (drop 2 s) (omega (arith, long, h.used))))
            (λ held. omega (arith, held.1, was q i.0)) in
            r.before q lt ∙ pick_false (ltb p (q + n)) (n - back) n d ∙ omega (arith, was q i.0, same_size, is q i.1)
        go (inr e) d =
            let ge = ltb-false q to e in
            let later : p < q = ⊎_elim (λ c. absurd (omega arith)) (λ c. omega arith) least.2 in
            let same_size = kept q l (λ c. omega arith) (λ held. omega (arith, held.0)) in
            r.between q ge (omega (arith, w.from_new)) ∙ omega (arith, was q i.0, same_size, is q i.1)

    -- From the zone's end on.
    rear : (q : ℕ) → z.new ≤ q → q < sheet_room → get_or v q 0 ≡ span 1 (drop q (drop 2 u))
    rear q le l =
        let c = counts in
        ⊎_elim
        (λ e. let lt = ltb-true q (used_in u) e in
        let there = w.after q le (omega (arith, c.1)) in
        let stood : q + back < used_in s = omega (arith, there.1, c.0) in
        r.after q le (omega (arith, h.used)) ∙ was (q + back) stood ∙ sym (same_length q (q + back) ns ms there.0) ∙ sym (is q lt))
        (λ e. let ge = ltb-false q (used_in u) e in
        ⊎_elim
        (λ d. let lt = ltb-true (q + back) sheet_room d in r.after q le lt ∙ was_past (q + back) (omega (arith, c.2)) lt ∙ sym (past_nodes q ge l))
        (λ d. r.end q le (ltb-false (q + back) sheet_room d) l ∙ sym (past_nodes q ge l))
        (either (ltb (q + back) sheet_room)))
        (either (ltb q (used_in u)))

    pub sizes_moved : (q : ℕ) → q < length (drop 2 u) → (q < z.from) ⊎ (z.new ≤ q) → get_or v q 0 ≡ span 1 (drop q (drop 2 u))
    sizes_moved q l (inl lt) = front q lt
    sizes_moved q l (inr le) = rear q le (omega (arith, length-drop 2 u, k.whole))
