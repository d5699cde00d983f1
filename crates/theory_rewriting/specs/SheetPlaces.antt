-- The stretch of a sheet from a place on, as a step at that place sees it.
use Rattle.std.specs.Prelude.{true, ◌≡◌, refl, get_or, drop}
use mathlib.Core.List.{List, ◌∷◌, ◌++◌, map}
use Rattle.std.proofs.Math.Path.{sym, ap, ap₂}
use Rattle.std.proofs.Common.{◌∙◌}
use Prim.Native.Nat.{ℕ, suc, ◌+◌, ◌-◌, ◌≤◌, ◌<◌}
use native.Mathlib.Omega.{arith}
use Rattle.std.proofs.Math.ListN.{length, take, replicate, length-map, length-drop}
use Rattle.std.proofs.Math.Seq.{take-append-le}
use Rattle.model.specs.Base.{is_some}
use Rattle.model.specs.Limits.{sheet_room, sheet_length}
use Rattle.model.specs.Code.{encode, decode, number_of}
use Rattle.model.specs.Rules as M
use Rattle.model.specs.Rules.{rewrite}
use Rattle.model.specs.Sheet.{options_in, used_in, nodes_in, sheet_of}
use Rattle.theory_forms.specs.Logic.{is_some_of, is_some_then}
use Rattle.theory_forms.specs.Lists.{map_take}
use Rattle.theory_rewriting.specs.Bounds.{step_within}
use Rattle.theory_forms.specs.Sheets.{Formed, sheet_is}
use Rattle.theory_reading.specs.Stretches.{Stretch, forest_in, sheet_stretch}

-- What a step at a place of a sheet asks, in terms of the stretch from there on.
pub record Lent (s : List ℕ) (p : ℕ) : Type 0 where
  pub whole : length s ≡ sheet_length
  pub within : p < sheet_room
  pub stretch : Stretch (drop (2 + p) s)
  pub long : 1 ≤ length (drop (2 + p) s)
  pub asked : (r i j : ℕ) → is_some (M.step r p i j (nodes_in s)) ≡ is_some (rewrite r i j (forest_in (drop (2 + p) s)))

module _ (s : List ℕ) (h : Formed s) where
  pub lend : (p : ℕ) → p < used_in s → Lent s p
  unfolding M.step
  lend p lt =
      let facts = h in
      let t = sheet_stretch s p h (omega arith) in
      record {
        whole = facts.whole;
        within = omega (arith, facts.used);
        stretch = t.0;
        long = omega (arith, length-drop (2 + p) s, facts.whole, facts.used);
        asked = λ r i j. is_some_then (rewrite r i j (decode (drop p (nodes_in s)))) (λ f. take p (nodes_in s) ++ encode f) ∙ ap (λ f. is_some (rewrite r i j f)) (sym t.1);
      }

  -- A step that applies has its place among the nodes; from the used count on there is none.
  pub place_used : (r p i j : ℕ) → is_some (M.step r p i j (nodes_in s)) ≡ true → p < used_in s
  place_used r p i j t =
      let w = is_some_of (M.step r p i j (nodes_in s)) t in
      omega (arith, (step_within r p i j (nodes_in s) w.1).0, h.count)

  -- The numbers before the place.
  pub before_place : (p : ℕ) → p ≤ used_in s → take (2 + p) s ≡ options_in s ∷ used_in s ∷ map number_of (take p (nodes_in s))
  unfolding sheet_of
  before_place p le =
      let facts = h in
      let ns = nodes_in s in
      let two : 2 + p ≡ suc (suc p) = omega arith in
      let enough : p ≤ length (map number_of ns) = omega (arith, length-map ns number_of, facts.count) in
      let front : take p (map number_of ns ++ replicate (sheet_room - length ns) 0) ≡ map number_of (take p ns) =
      take-append-le p (map number_of ns) (replicate (sheet_room - length ns) 0) enough ∙ sym (map_take number_of p ns) in
      rw two (ap (take (suc (suc p))) (sheet_is s h) ∙ ap₂ (λ u xs. options_in s ∷ u ∷ xs) facts.count front)

-- What calls read of a sheet.
pub sheet_long : (s : List ℕ) → Formed s → length s ≡ sheet_length
sheet_long s h = h.whole

pub used_here : (s : List ℕ) → used_in s ≡ get_or s 1 0
unfolding used_in
used_here s = refl
