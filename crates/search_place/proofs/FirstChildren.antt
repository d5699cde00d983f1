-- The first child with which a rule applies, and how it is the search's answer.
use mathlib.Core.Bool.{true, false, ◌||◌}
use mathlib.Core.List.{List, [], ◌∷◌}
use mathlib.Core.Logic.{inl, inr}
use mathlib.Core.Option.{none, some}
use mathlib.Core.Path.{◌≡◌, refl, sym, ap, ◌∙◌}
use Prim.Native.Nat.{ℕ, zero, suc, ◌+◌, ◌≤◌, ◌<◌}
use native.Mathlib.Nat.{add-zero}
use native.Mathlib.Omega.{arith}
use borrow.Author.Tests.{eq-eqb, ne_eqb}
use lib.Dec.{eqb}
use lib.ListN.{length, get_or, take, drop, length-drop}
use lib.Seq.{slice}
use Rattle.model.specs.Base.{all, is_some}
use Rattle.model.specs.Code.{children}
use Rattle.model.specs.Forest.{size, kids}
use Rattle.model.specs.Rules.{rewrite}
use Rattle.model.specs.Strategy.{redex, least_j, least_i}
use Rattle.theory_forms.specs.Logic.{true_false, and_split, fails_if, is_some_of}
use Rattle.theory_forms.specs.Scan.{is_literal}
use Rattle.theory_reading.specs.Spans.{arity_literal, span, span_none, span_more, child_at}
use Rattle.theory_reading.specs.Stretches.{Stretch, forest_in}
use Rattle.theory_rewriting.specs.Heads.{Headed, headed_least}
use Rattle.theory_rewriting.specs.Bounds.{node_alone}
use Rattle.theory_rewriting.specs.Children.{headed_group, group_children, group_long, child_room, child_later}
use Rattle.rule_simplify.specs.Constants.{constant_for}
use Rattle.rule_simplify.proofs.Simplifying.{applies_single, applies_constant}
use Rattle.rule_least.specs.LeastHeads.{is_constant}
use Rattle.rule_least.proofs.Dropping.{drops_constant}
use Rattle.rule_lift.specs.Asked.{others_literal}
use Rattle.rule_lift.proofs.Lifting.{conjunction_there, applies_others}
use Rattle.rule_factor.proofs.Asking.{applies_late}
use Rattle.search_sizes.specs.FirstApplying.{FirstChild, FirstInner}
use Rattle.search_place.proofs.SearchLevels.{j_found, j_none, i_found, i_none, i_never}
use Rattle.search_place.proofs.InnerSearch.{Beside, flat_found, flat_none}
use Rattle.search_place.specs.Sought.{Sought}

or_same : (b : _) → (b || b) ≡ b
or_same true = refl
or_same false = refl

module _ {r : ℕ} {l : List ℕ} (s : Stretch l) (h : Headed r l) where
  pub children_counted : children (get_or l 0 0) ≡ size (kids (forest_in l))
  unfolding kids
  children_counted = rw h.forest (group_children (headed_group s h))

  -- A rule that looks at the children and into none of them.
  module _ (low : Beside r) where
    pub first_found : {i : ℕ} → FirstChild r (some i) l → (p : ℕ) → some (redex r p i 0) ≡ least_i r p (forest_in l)
    first_found {i} w p =
        i_found r p (forest_in l) i (omega (arith, w.0, children_counted)) (flat_found s h i (inl low) w.1.there p)
        (λ k m. flat_none s h k (inl low) (w.1.before k m) p)

    pub first_none : FirstChild r none l → (p : ℕ) → none ≡ least_i r p (forest_in l)
    first_none w p =
        i_none r p (forest_in l) (early low) (λ k m. flat_none s h k (inl low) (w k (omega (arith, children_counted))) p)
      where
        early : Beside r → r ≤ 15
        early (inl h) = omega arith
        early (inr h) = omega arith

  -- Rules 7 and 8: a single child.
  pub single_first : 7 ≤ r → r ≤ 8 → children (get_or l 0 0) ≡ 1 → FirstChild r (some 0) l
  single_first a b e =
      let count = group_children (headed_group s h) in (
        omega arith,
        record {
          before = λ k m. absurd (omega arith);
          there = sym (applies_single s h 0 0 a b refl (omega (arith, count))) ∙ eq-eqb (size h.children) 1 (sym count ∙ e);
        },
      )

  pub single_none : 7 ≤ r → r ≤ 8 → (children (get_or l 0 0) ≡ 1 → ⊥) → FirstChild r none l
  single_none a b n k m =
      let count = group_children (headed_group s h) in
      sym (applies_single s h k 0 a b refl (omega (arith, count))) ∙ ne_eqb (size h.children) 1 (λ e. n (count ∙ e))

  -- Rules 1 to 6: child i is the constant that the rule looks for.
  pub constant_asked : r ≤ 6 → {x : ℕ} → x ≡ constant_for r → Sought r x x l
  constant_asked low {x} looked i lt =
      or_same (eqb (get_or l (child_at i l) 0) x)
      ∙ ap (eqb (get_or l (child_at i l) 0)) looked
      ∙ applies_constant s h i 0 low refl (omega (arith, group_children (headed_group s h)))

-- Rule 15: it is one of the two.
pub member_asked : {l : List ℕ} → Stretch l → Headed 15 l → Sought 15 16384 12288 l
unfolding is_constant
member_asked s h i lt =
    drops_constant s h i 0 (headed_least h (omega arith)).1 refl (omega (arith, group_children (headed_group s h)))

-- Rules 16 and 17, which are about the node alone.
module _ {r : ℕ} (l : List ℕ) (low : 16 ≤ r) where
  pub ended_found : is_some (rewrite r 0 0 (forest_in l)) ≡ true → (p : ℕ) → some (redex r p 0 0) ≡ least_i r p (forest_in l)
  ended_found t p =
      i_found r p (forest_in l) 0 (omega arith) (j_found r p (forest_in l) 0 0 t (λ k m. absurd (omega arith))) (λ k m. absurd (omega arith))

  pub ended_none : is_some (rewrite r 0 0 (forest_in l)) ≡ false → (p : ℕ) → none ≡ least_i r p (forest_in l)
  unfolding is_some
  ended_none t p = i_never r p (forest_in l) (λ i j. sym (fails_if (is_some (rewrite r i j (forest_in l))) (λ e. go i j e)))
    where
      go : (i j : ℕ) → is_some (rewrite r i j (forest_in l)) ≡ true → ⊥
      go i j e =
          let alone = node_alone r i j (forest_in l) low (is_some_of (rewrite r i j (forest_in l)) e).1 in
          let same : is_some (rewrite r 0 0 (forest_in l)) ≡ true = rw (alone.0, alone.1) at e in
          true_false (sym same ∙ t)

-- Rule 14: the first inner child as the search's answer, and where child i stands too far on.
module _ {l : List ℕ} (s : Stretch l) (h : Headed 14 l) (i : ℕ) {at : ℕ} (there : i < children (get_or l 0 0)) (e : at ≡ child_at i l) where
  pub late_none : (at ≡ 1 + i → ⊥) → (p : ℕ) → none ≡ least_j 14 p i (forest_in l)
  late_none n p =
      j_none 14 p (forest_in l) i (λ j m. sym (applies_late s h i j there (λ q. n (e ∙ q))))

  pub inner_found : {j : ℕ} → FirstInner 14 i (some j) l → (p : ℕ) → some (redex 14 p i j) ≡ least_j 14 p i (forest_in l)
  inner_found {j} w p = j_found 14 p (forest_in l) i j w.1.there w.1.before

  pub inner_none : FirstInner 14 i none l → (p : ℕ) → none ≡ least_j 14 p i (forest_in l)
  inner_none w p = j_none 14 p (forest_in l) i w

-- Rule 13: so many trees as there are numbers, where these are literals.
span_literals : (i : ℕ) (xs : List ℕ) → i ≤ length xs → all is_literal (take i xs) ≡ true → span i xs ≡ i
unfolding all
span_literals zero xs le e = span_none xs
span_literals (suc i) [] le e = absurd (omega arith)
span_literals (suc i) (x ∷ xs) le e =
    let w = and_split (is_literal x) (all is_literal (take i xs)) e in
    rw (span_more i x xs, arity_literal x w.0, add-zero i) (ap suc (span_literals i xs (omega arith) w.1))

after_head : (i : ℕ) (l : List ℕ) → 1 ≤ length l → slice 1 (1 + i) l ≡ take i (drop 1 l)
after_head i [] le = absurd (omega arith)
after_head i (x ∷ l) le = let one : 1 + i ≡ suc i = omega arith in ap (λ n. drop 1 (take n (x ∷ l))) one

module _ {l : List ℕ} (s : Stretch l) (h : Headed 13 l) (i : ℕ) {at : ℕ} (there : i < children (get_or l 0 0)) (e : at ≡ child_at i l) where
  -- Where it applies only literals stand before child i, so that it stands at place 1 + i.
  merged_place : is_some (rewrite 13 i 0 (forest_in l)) ≡ true → child_at i l ≡ 1 + i
  unfolding others_literal
  merged_place t =
      let g = headed_group s h in
      let within : i < size h.children = omega (arith, group_children g) in
      let m = conjunction_there s h i 0 t (omega arith) (omega arith) in
      let others = applies_others s h i 0 m.1 refl refl within ∙ t in
      let room = child_room g i (omega arith) in
      let later = child_later g i (omega arith) in
      let before = sym (ap (all is_literal) (after_head i l (group_long g))) ∙ (and_split (all is_literal (slice 1 (1 + i) l)) _ others).0 in
      omega (arith, span_literals i (drop 1 l) (omega (arith, length-drop 1 l)) before)

  pub merged_late : (at ≡ 1 + i → ⊥) → (p : ℕ) → none ≡ least_j 13 p i (forest_in l)
  merged_late far =
      flat_none s h i (inr refl) (fails_if (is_some (rewrite 13 i 0 (forest_in l))) (λ t. far (e ∙ merged_place t)))
