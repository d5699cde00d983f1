-- The sheet after a step, and the places that hold the step's, by the table of sizes.
use mathlib.Core.Bool.{true, false}
use mathlib.Core.List.{List}
use mathlib.Core.Logic.{◌⊎◌, inl, inr}
use mathlib.Core.Path.{◌≡◌, sym, ap, ◌∙◌}
use Prim.Native.Nat.{ℕ, ◌+◌, ◌≤◌, ◌<◌}
use native.Mathlib.Omega.{arith}
use borrow.Author.Tests.{eqb-true, eqb-false}
use lib.Dec.{eqb}
use lib.ListN.{length, get_or, length-drop}
use Rattle.model.specs.Code.{weight}
use Rattle.model.specs.Limits.{most_weight}
use Rattle.model.specs.Results.{stepped}
use Rattle.model.specs.Sheet.{used_in, nodes_in}
use Rattle.theory_forms.specs.Logic.{either}
use Rattle.theory_rewriting.specs.Steps.{done, more, steps_shaped, steps_weight}
use Rattle.theory_forms.specs.Sheets.{Formed, formed_made, nodes_made}
use Rattle.locality.specs.Zones.{Holds, Twice, tree_end}
use Rattle.search_sizes.specs.SizeTables.{Measured}
use Rattle.search_place.specs.declared.Redex.{Redex}
use Rattle.search_place.specs.Redexes.{Applies, stepped_by}
use Rattle.run_bounds_after.specs.Zoned.{after_step}
use Rattle.run_bounds_after.proofs.ZoneChildren.{size_here}
use Rattle.run_bounds_after.proofs.SheetZones as O

-- The sheet after a step.
pub record After (s : List ℕ) (x : Redex) : Type 0 where
  pub sheet : Formed (stepped_by x s)
  pub nodes : nodes_in (stepped_by x s) ≡ after_step x (nodes_in s)
  pub used : used_in (stepped_by x s) ≡ length (after_step x (nodes_in s))

pub after : (s : List ℕ) → Formed s → (x : Redex) → Applies x s → After s x
unfolding stepped after_step
after s h x a =
    let form = h.shaped in
    let one = more x.rule x.place x.i x.j (O.did s h x a) done in
    let light : weight (after_step x (nodes_in s)) ≤ most_weight = omega (arith, h.weight, steps_weight form one) in
    let shaped = steps_shaped form one in
    let made = formed_made h.options shaped light in
    let nodes = nodes_made h.options shaped light in
    record { sheet = made; nodes = nodes; used = sym made.count ∙ ap length nodes }

-- The nearest two places that hold a place.
pub nearest_two :
    {s t : List ℕ} →
    Measured s t →
    (p inner outer : ℕ) →
    p < used_in s →
    (inner < p → p < inner + get_or t inner 0) →
    ((q : ℕ) → q < p → p < q + get_or t q 0 → (inner < p) × (q ≤ inner)) →
    (outer < inner → p < outer + get_or t outer 0) →
    ((q : ℕ) → q < inner → p < q + get_or t q 0 → (outer < inner) × (q ≤ outer)) →
    (q : ℕ) →
    Holds q p (nodes_in s) →
    (q ≡ inner) ⊎ ((q < inner) × ((q ≡ outer) ⊎ Twice q p (nodes_in s)))
nearest_two {s} {t} m p inner outer within reach near reach_2 near_2 q held = go q held (near q held.0 (wide q held)) (either (eqb q inner))
  where
    ends : (q : ℕ) → q < used_in s → q + get_or t q 0 ≡ tree_end q (nodes_in s)
    ends q l =
        let h = m.sheet in
        omega (arith, m.each q (omega arith) (omega (arith, length-drop 2 s, h.whole, h.used)), size_here s h q l)

    wide : (q : ℕ) → Holds q p (nodes_in s) → p < q + get_or t q 0
    wide q held = omega (arith, ends q (omega (arith, held.0)), held.1)

    holds : (q : ℕ) → q < p → p < q + get_or t q 0 → Holds q p (nodes_in s)
    holds q l x = (l, omega (arith, ends q (omega arith)))

    deeper :
        (q : ℕ) →
        Holds q p (nodes_in s) →
        q < inner →
        inner < p →
        (outer < inner) × (q ≤ outer) →
        (eqb q outer ≡ true) ⊎ (eqb q outer ≡ false) →
        (q ≡ outer) ⊎ Twice q p (nodes_in s)
    deeper q held l lt w (inl e) = inl (eqb-true q outer e)
    deeper q held l lt w (inr e) =
        inr (record {
          outer = outer;
          inner = inner;
          later = omega (arith, w.1, eqb-false q outer e);
          deeper = w.0;
          outer_holds = holds outer (omega (arith, w.0)) (reach_2 w.0);
          inner_holds = holds inner lt (reach lt);
        })

    go :
        (q : ℕ) →
        Holds q p (nodes_in s) →
        (inner < p) × (q ≤ inner) →
        (eqb q inner ≡ true) ⊎ (eqb q inner ≡ false) →
        (q ≡ inner) ⊎ ((q < inner) × ((q ≡ outer) ⊎ Twice q p (nodes_in s)))
    go q held w (inl e) = inl (eqb-true q inner e)
    go q held w (inr e) =
        let lt : q < inner = omega (arith, w.1, eqb-false q inner e) in
        inr (lt, deeper q held lt w.0 (near_2 q lt (wide q held)) (either (eqb q outer)))
