-- The table of sizes after a step: past all nodes it is still right, and outside the zone where the number of nodes stays.
use mathlib.Core.Bool.{◌&&◌}
use mathlib.Core.List.{List, ◌++◌, map, append_assoc}
use mathlib.Core.Logic.{◌⊎◌, inl, inr, ⊎_elim}
use mathlib.Core.Path.{◌≡◌, sym, ap, ◌∙◌}
use Prim.Native.Nat.{ℕ, ◌+◌, ◌-◌, ◌≤◌, ◌<◌}
use native.Mathlib.Omega.{arith}
use borrow.Author.Tests.{eqb-true, eqb-false, ltb-true, ltb-false, lt-ltb}
use lib.Dec.{eqb, ltb}
use lib.ListN.{length, get_or, drop, replicate, length-append, length-drop, length-map, length-replicate, replicate-append-replicate}
use lib.Seq.{drop_at}
use Rattle.model.specs.Code.{number_of}
use Rattle.model.specs.Limits.{sheet_room}
use Rattle.model.specs.Sheet.{used_in, nodes_in}
use Rattle.theory_forms.specs.Logic.{true_false, either, and_split, and_join}
use Rattle.theory_reading.specs.Spans.{span}
use Rattle.theory_forms.specs.Sheets.{Formed}
use Rattle.theory_reading.specs.Stretches.{stands}
use Rattle.locality.specs.Zones.{tree_length, tree_end}
use Rattle.locality.specs.Locality.{same_length, length_before, length_holding, length_at, Level, level_length}
use Rattle.search_sizes.specs.SizeTables.{SizesFrom}
use Rattle.search_place.specs.declared.Redex.{Redex}
use Rattle.search_place.specs.Redexes.{Applies}
use Rattle.run_bounds_after.specs.declared.Zone.{Zone}
use Rattle.run_bounds_after.specs.Zoned.{after_step, Zoned}
use Rattle.run_bounds_after.proofs.ZoneChildren.{size_here}
use Rattle.run_bounds_after.proofs.SheetZones as O

-- Of zeros that follow a list some are left from a place among them on.
zeros_left : (xs : List ℕ) (gone left q : ℕ) → length xs + gone ≡ q → drop q (xs ++ replicate (gone + left) 0) ≡ replicate left 0
zeros_left xs gone left q e =
    ap (λ zs. drop q (xs ++ zs)) (sym (replicate-append-replicate gone left 0))
    ∙ ap (drop q) (sym (append_assoc xs (replicate gone 0) (replicate left 0)))
    ∙ drop_at (xs ++ replicate gone 0) (replicate left 0) q (omega (arith, length-append xs (replicate gone 0), length-replicate {A = ℕ} gone 0))

-- After the nodes stand zeros.
pub zeros_here : (s : List ℕ) → Formed s → (q : ℕ) → used_in s ≤ q → q ≤ sheet_room → drop q (drop 2 s) ≡ replicate (sheet_room - q) 0
zeros_here s h q le small =
    let numbers = map number_of (nodes_in s) in
    let sum : (q - used_in s) + (sheet_room - q) ≡ sheet_room - used_in s = omega arith in
    ap (drop q) (stands s h)
    ∙ ap (λ n. drop q (numbers ++ replicate n 0)) (sym sum)
    ∙ zeros_left numbers (q - used_in s) (sheet_room - q) q (omega (arith, length-map (nodes_in s) number_of, h.count))

-- Past the nodes of two sheets the sizes of the one are those of the other.
pub sizes_past :
    (s u : List ℕ) →
    Formed s →
    Formed u →
    (t : List ℕ) →
    SizesFrom 0 (drop 2 s) t →
    (most : ℕ) →
    used_in s ≤ most →
    used_in u ≤ most →
    SizesFrom most (drop 2 u) t
sizes_past s u h k t sizes most a b q le l =
    let short : q < sheet_room = omega (arith, length-drop 2 u, k.whole) in
    let there : q < length (drop 2 s) = omega (arith, length-drop 2 s, h.whole) in
    sizes q (omega arith) there ∙ ap (span 1) (zeros_here s h q (omega arith) (omega arith) ∙ sym (zeros_here u k q (omega arith) (omega arith)))

module _ (s u : List ℕ) (h : Formed s) (k : Formed u) (x : Redex) (a : Applies x s) (same : nodes_in u ≡ after_step x (nodes_in s)) {z : Zone}
    (w : Zoned x (nodes_in s) z) (even : Level x.rule) where
  level : length (after_step x (nodes_in s)) ≡ length (nodes_in s)
  level = level_length x.rule x.place x.i x.j (nodes_in s) (O.one s h x a) (O.did s h x a) even

  used_same : used_in u ≡ used_in s
  used_same = sym k.count ∙ ap length same ∙ level ∙ h.count

  -- The trees outside the zone keep their lengths.
  kept : (q : ℕ) → q < used_in s → (q < z.from) ⊎ (z.new ≤ q) → tree_length q (nodes_in u) ≡ tree_length q (nodes_in s)
  kept q l side = ap (tree_length q) same ∙ go side
    where
      before : q < z.from → (q ≡ x.place) ⊎ (q ≡ x.place → ⊥) → tree_length q (after_step x (nodes_in s)) ≡ tree_length q (nodes_in s)
      before lt (inl e) =
          let grown = length_at x.rule x.place x.i x.j (nodes_in s) (O.one s h x a) (O.did s h x a) in
          ap (λ n. tree_length n (after_step x (nodes_in s))) e ∙ omega (arith, grown, level) ∙ ap (λ n. tree_length n (nodes_in s)) (sym e)
      before lt (inr e) =
          let inside = ltb q x.place in
          let reaches = ltb x.place (tree_end q (nodes_in s)) in
          ⊎_elim
          (λ y. let both = and_split inside reaches y in
          omega (
            arith,
            length_holding x.rule x.place x.i x.j (nodes_in s) (O.one s h x a) (O.did s h x a)
                q (ltb-true q x.place both.0, ltb-true x.place (tree_end q (nodes_in s)) both.1),
            level,
          ))
          (λ y. length_before x.rule x.place x.i x.j (nodes_in s) (O.one s h x a) (O.did s h x a) q (omega (arith, w.before)) e
          (λ held. true_false (sym (and_join (lt-ltb q x.place held.0) (lt-ltb x.place (tree_end q (nodes_in s)) held.1)) ∙ y)))
          (either (inside && reaches))

      go : (q < z.from) ⊎ (z.new ≤ q) → tree_length q (after_step x (nodes_in s)) ≡ tree_length q (nodes_in s)
      go (inl lt) = before lt (⊎_elim (λ e. inl (eqb-true q x.place e)) (λ e. inr (eqb-false q x.place e)) (either (eqb q x.place)))
      go (inr le) =
          let there = (w.after q le (omega (arith, level, h.count))).0 in
          let still : q + (z.old - z.new) ≡ q = omega (arith, w.level even) in
          same_length q q (nodes_in s) (after_step x (nodes_in s)) (there ∙ ap (λ n. drop n (nodes_in s)) still)

  pub sizes_outside :
      (t : List ℕ) →
      SizesFrom 0 (drop 2 s) t →
      (q : ℕ) →
      q < length (drop 2 u) →
      (q < z.from) ⊎ (z.new ≤ q) →
      get_or t q 0 ≡ span 1 (drop q (drop 2 u))
  sizes_outside t sizes q l side =
      let whole = h.whole in
      let there : q < length (drop 2 s) = omega (arith, length-drop 2 s, length-drop 2 u, k.whole) in
      ⊎_elim
      (λ e. let lt = ltb-true q (used_in s) e in
      sizes q (omega arith) there ∙ size_here s h q lt ∙ sym (kept q lt side) ∙ sym (size_here u k q (omega (arith, used_same))))
      (λ e. sizes_past s u h k t sizes (used_in s) (omega arith) (omega (arith, used_same)) q (ltb-false q (used_in s) e) l)
      (either (ltb q (used_in s)))

-- A table that is right before a place and from it on is right.
pub sizes_both :
    (from : ℕ) (l t : List ℕ) →
    SizesFrom from l t →
    ((q : ℕ) → q < from → q < length l → get_or t q 0 ≡ span 1 (drop q l)) →
    SizesFrom 0 l t
sizes_both from l t right before q a b =
    ⊎_elim (λ x. before q (ltb-true q from x) b) (λ x. right q (ltb-false q from x) b) (either (ltb q from))
