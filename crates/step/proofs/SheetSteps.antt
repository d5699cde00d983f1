-- A step on a lent stretch as a step on the sheet.
use mathlib.Core.Bool.{true}
use mathlib.Core.List.{List, ◌∷◌, ◌++◌, map, map-append, append_assoc}
use mathlib.Core.Option.{some}
use mathlib.Core.Path.{◌≡◌, sym, ap, ap₂, ◌∙◌}
use Prim.Native.Nat.{ℕ, ◌+◌, ◌-◌, ◌≤◌, ◌<◌}
use native.Mathlib.Omega.{arith}
use borrow.Rule.Slice.PartMut.{mid_of, put_mid}
use lib.ListN.{length, get_or, take, drop, set, replicate, length-append, length-map, length-drop}
use lib.Seq.{length-take-le, get_or-set_same}
use Rattle.common_lists.proofs.Lent.{lent_part, lent_back}
use Rattle.model.specs.Base.{is_some, maybe, then}
use Rattle.model.specs.Forest.{Forest}
use Rattle.model.specs.Code.{encode, decode, number_of}
use Rattle.model.specs.Limits.{last_rule, sheet_length, sheet_room}
use Rattle.model.specs.Rules as M
use Rattle.model.specs.Rules.{rewrite}
use Rattle.model.specs.Sheet.{options_in, used_in, nodes_in, sheet_of}
use Rattle.theory_forms.specs.Logic.{is_some_of, is_some_then}
use Rattle.theory_rewriting.specs.Bounds.{step_within}
use Rattle.theory_rewriting.specs.Inversion.{step_some}
use Rattle.theory_reading.specs.Flat.{spell}
use Rattle.theory_forms.specs.Shape.{shaped_trees}
use Rattle.theory_forms.specs.Sheets.{Formed}
use Rattle.theory_reading.specs.Stretches.{Stretch, forest_in, spell_to, live, live_numbers, sheet_stretch}
use Rattle.theory_rewriting.specs.SheetPlaces.{lend, place_used, before_place}
use Rattle.theory_rewriting.specs.Heads.{Headed, rewritten_to}
use Rattle.locality.specs.Locality.{Level, level_length}
use Rattle.rule_table.proofs.HeadTests.{applied_headed}
use Rattle.model.specs.Results.{stepped}

module _ (s : List ℕ) (h : Formed s) where
  -- The stretch as a step leaves it, after the numbers before its place.
  turned_numbers :
      (r p i j : ℕ) {g : Forest} →
      p < used_in s →
      rewrite r i j (decode (drop p (nodes_in s))) ≡ some g →
      let ms = take p (nodes_in s) ++ encode g in
      take (2 + p) s ++ rewritten_to r i j (drop (2 + p) s)
      ≡ options_in s ∷ used_in s ∷ (map number_of ms ++ replicate (sheet_room - length ms) 0)
  unfolding rewritten_to spell_to spell maybe
  turned_numbers r p i j {g} lt e =
      let facts = h in
      let ns = nodes_in s in
      let ms = take p ns ++ encode g in
      let l = drop (2 + p) s in
      let there : rewrite r i j (forest_in l) ≡ some g = ap (rewrite r i j) (sheet_stretch s p h (omega arith)).1 ∙ e in
      let left : length l - length (encode g) ≡ sheet_room - length ms =
      omega (arith, length-drop (2 + p) s, facts.whole, length-append (take p ns) (encode g), length-take-le p ns (omega (arith, facts.count))) in
      let part : rewritten_to r i j l ≡ map number_of (encode g) ++ replicate (sheet_room - length ms) 0 =
      ap (maybe l (spell_to (length l))) there ∙ ap (λ z. map number_of (encode g) ++ replicate z 0) left in
      let joined : map number_of (take p ns) ++ (map number_of (encode g) ++ replicate (sheet_room - length ms) 0) ≡ map number_of ms ++ replicate (sheet_room - length ms) 0 =
      sym (append_assoc (map number_of (take p ns)) (map number_of (encode g)) (replicate (sheet_room - length ms) 0)) ∙ ap (λ xs. xs ++ replicate (sheet_room - length ms) 0) (sym (map-append number_of (take p ns) (encode g))) in
      ap₂ ◌++◌ (before_place s h p (omega arith)) part
      ∙ ap (λ xs. options_in s ∷ used_in s ∷ xs) joined

  -- With the new used count it is the sheet that the step leaves.
  pub turned_sheet :
      (r p i j : ℕ) →
      is_some (M.step r p i j (nodes_in s)) ≡ true →
      let new = take (2 + p) s ++ rewritten_to r i j (drop (2 + p) s) in
      set new 1 (length (live (drop 2 new))) ≡ stepped s r p i j
  unfolding stepped maybe sheet_of then M.step
  turned_sheet r p i j t =
      let ns = nodes_in s in
      let w = is_some_of (rewrite r i j (decode (drop p ns))) (sym (is_some_then (rewrite r i j (decode (drop p ns))) (λ f. take p ns ++ encode f)) ∙ t) in
      let ms = take p ns ++ encode w.0 in
      let z = sheet_room - length ms in
      let count : length (live (map number_of ms ++ replicate z 0)) ≡ length ms = ap length (live_numbers ms z) ∙ length-map ms number_of in
      ap (λ new. set new 1 (length (live (drop 2 new)))) (turned_numbers r p i j (place_used s h r p i j t) w.1)
      ∙ ap (λ u. options_in s ∷ u ∷ (map number_of ms ++ replicate z 0)) count
      ∙ ap (λ o. sheet_of (options_in s) (maybe ns (λ xs. xs) o)) (sym (step_some r p i j ns w.1))

  -- A step that keeps the number of nodes leaves the used count right.
  pub turned_level :
      (r p i j : ℕ) →
      is_some (M.step r p i j (nodes_in s)) ≡ true →
      Level r →
      take (2 + p) s ++ rewritten_to r i j (drop (2 + p) s) ≡ stepped s r p i j
  unfolding stepped maybe sheet_of then M.step
  turned_level r p i j t level =
      let ns = nodes_in s in
      let facts = h in
      let w = is_some_of (rewrite r i j (decode (drop p ns))) (sym (is_some_then (rewrite r i j (decode (drop p ns))) (λ f. take p ns ++ encode f)) ∙ t) in
      let ms = take p ns ++ encode w.0 in
      let did = step_some r p i j ns w.1 in
      let count : used_in s ≡ length ms = sym facts.count ∙ sym (level_length r p i j ns (shaped_trees facts.shaped) did level) in
      turned_numbers r p i j (place_used s h r p i j t) w.1
      ∙ ap (λ u. options_in s ∷ u ∷ (map number_of ms ++ replicate (sheet_room - length ms) 0)) count
      ∙ ap (λ o. sheet_of (options_in s) (maybe ns (λ xs. xs) o)) (sym did)

-- What is known of a step that applies: its rule, the sheet's length, and the stretch that is lent.
pub record Ready (s : List ℕ) (r p i j : ℕ) : Type 0 where
  pub low : 1 ≤ r
  pub high : r ≤ last_rule
  pub whole : length s ≡ sheet_length
  pub within : p < sheet_room
  pub stretch : Stretch (drop (2 + p) s)
  pub head : Headed r (drop (2 + p) s)
  pub applied : is_some (rewrite r i j (forest_in (drop (2 + p) s))) ≡ true

module _ (s : List ℕ) (h : Formed s) (r p i j : ℕ) (t : is_some (M.step r p i j (nodes_in s)) ≡ true) where
  pub ready : Ready s r p i j
  ready =
      let w = is_some_of (M.step r p i j (nodes_in s)) t in
      let there = (step_within r p i j (nodes_in s) w.1).1 in
      let l = lend s h p (place_used s h r p i j t) in
      let applied = sym (l.asked r i j) ∙ t in
      record {
        low = there.rule_low;
        high = there.rule_high;
        whole = l.whole;
        within = l.within;
        stretch = l.stretch;
        head = applied_headed r i j l.stretch applied;
        applied = applied;
      }

  -- The stretch comes back rewritten, as long as it was.
  module _ {ys : List ℕ} (e : ys ≡ rewritten_to r i j (mid_of (2 + p) (length s - (2 + p)) s)) where
    back : put_mid (2 + p) (length s - (2 + p)) s ys ≡ take (2 + p) s ++ rewritten_to r i j (drop (2 + p) s)
    back =
        lent_back (2 + p) s ys (omega (arith, ready.whole, ready.within))
        ∙ ap (λ xs. take (2 + p) s ++ xs) (e ∙ ap (rewritten_to r i j) (lent_part (2 + p) s))

    pub back_long :
        length ys ≡ length (mid_of (2 + p) (length s - (2 + p)) s) →
        length (put_mid (2 + p) (length s - (2 + p)) s ys) ≡ sheet_length
    back_long n =
        let long : length ys ≡ length s - (2 + p) = n ∙ ap length (lent_part (2 + p) s) ∙ length-drop (2 + p) s in
        let all = lent_back (2 + p) s ys (omega (arith, ready.whole, ready.within)) in
        omega (arith, ap length all, length-append (take (2 + p) s) ys, length-take-le (2 + p) s (omega (arith, ready.whole, ready.within)), ready.whole, ready.within)

    -- With its live numbers counted it is the sheet that the step leaves.
    pub back_sheet :
        let new = put_mid (2 + p) (length s - (2 + p)) s ys in
        set new 1 (length (live (mid_of 2 (length new - 2) new))) ≡ stepped s r p i j
    back_sheet =
        let new = put_mid (2 + p) (length s - (2 + p)) s ys in
        ap (λ xs. set new 1 (length (live xs))) (lent_part 2 new)
        ∙ ap (λ xs. set xs 1 (length (live (drop 2 xs)))) back
        ∙ turned_sheet s h r p i j t

    -- Where the step keeps the number of nodes it is that as it is.
    pub back_level : Level r → put_mid (2 + p) (length s - (2 + p)) s ys ≡ stepped s r p i j
    back_level level = back ∙ turned_level s h r p i j t level

    -- The used count that the step leaves, where it is known without counting the live numbers.
    pub back_count :
        (n : ℕ) →
        n ≡ used_in (stepped s r p i j) →
        1 < length (put_mid (2 + p) (length s - (2 + p)) s ys) →
        set (put_mid (2 + p) (length s - (2 + p)) s ys) 1 n ≡ stepped s r p i j
    unfolding used_in
    back_count n e inside =
        let new = put_mid (2 + p) (length s - (2 + p)) s ys in
        let count = length (live (mid_of 2 (length new - 2) new)) in
        let same : n ≡ count = e ∙ ap (λ xs. get_or xs 1 0) (sym back_sheet) ∙ get_or-set_same new 1 count 0 inside in
        ap (set new 1) same ∙ back_sheet
