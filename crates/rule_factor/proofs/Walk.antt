-- Walks over trees on a run of numbers, one tree further at a time.
use mathlib.Core.Bool.{Bool, true, false, ◌&&◌}
use mathlib.Core.List.{List, [], ◌∷◌}
use mathlib.Core.Option.{none, some}
use mathlib.Core.Path.{◌≡◌, refl, sym, ap, ap₂, ◌∙◌}
use Prim.Native.Nat.{ℕ, zero, suc, ◌+◌, ◌-◌, ◌≤◌, ◌<◌}
use native.Mathlib.Omega.{arith}
use native.Mathlib.Nat.{zero-add, suc-add}
use borrow.Author.Tests.{eq-eqb, ne_eqb, lt-ltb, le-ltb}
use lib.Dec.{eqb}
use lib.ListN.{length, get_or, drop, length-drop, drop_of_length-le}
use lib.Seq.{drop-drop}
use Rattle.model.specs.Base.{pick, maybe, only_if}
use Rattle.theory_forms.specs.Logic.{pick_true, pick_false}
use Rattle.theory_reading.specs.Spans.{arity, span, span_none, span_over, span_more, span_step}
use Rattle.theory_rewriting.specs.Children.{first_left}
use Rattle.rule_factor.specs.Walks.{next, walk, unit_place, among, shares_here, all_share, group_here, groups_in, sharing}

module _ {A : Type 0} (f : List ℕ → A → A) (e : A) where
  walk_first : (n : ℕ) (s : List ℕ) → 1 ≤ length s → walk f e (suc n) s ≡ f s (walk f e n (next s))
  unfolding walk
  walk_first n [] h = absurd (omega arith)
  walk_first n (x ∷ xs) h = refl

  pub walk_none : (s : List ℕ) → walk f e 0 s ≡ e
  unfolding walk
  walk_none s = refl

  walk_over : (n : ℕ) → walk f e n [] ≡ e
  unfolding walk
  walk_over zero = refl
  walk_over (suc n) = refl

  -- From a place of a list on: the tree that stands there, and those after it.
  pub walk_step :
      (n i : ℕ) (l : List ℕ) →
      0 < n →
      i < length l →
      walk f e n (drop i l) ≡ f (drop i l) (walk f e (n - 1) (drop (i + span 1 (drop i l)) l))
  walk_step zero i l h k = absurd (omega arith)
  walk_step (suc n) i l h k =
      let one : n ≡ suc n - 1 = omega arith in
      walk_first n (drop i l) (omega (arith, length-drop i l))
      ∙ ap₂ (λ m s. f (drop i l) (walk f e m s)) one (drop-drop (span 1 (drop i l)) i l)

  pub walk_end : (n i : ℕ) (l : List ℕ) → length l ≤ i → walk f e n (drop i l) ≡ e
  walk_end n i l h = ap (walk f e n) (drop_of_length-le l h) ∙ walk_over n

-- The place of the first tree that is a number itself.
module _ (a n i : ℕ) (l : List ℕ) where
  pub unit_none : n ≡ 0 → unit_place a n (drop i l) ≡ 0
  unfolding unit_place
  unit_none h = ap (λ m. unit_place a m (drop i l)) h ∙ walk_none _ 0 (drop i l)

  pub unit_end : length l ≤ i → unit_place a n (drop i l) ≡ 0
  unfolding unit_place
  unit_end h = walk_end _ 0 n i l h

  unit_step :
      0 < n →
      i < length l →
      unit_place a n (drop i l) ≡ pick (eqb (get_or l i 0) a) 0 (span 1 (drop i l) + unit_place a (n - 1) (drop (i + span 1 (drop i l)) l))
  unfolding unit_place
  unit_step h k = rw (← first_left i l) (walk_step _ 0 n i l h k)

  pub unit_found : 0 < n → i < length l → get_or l i 0 ≡ a → unit_place a n (drop i l) ≡ 0
  unit_found h k e = unit_step h k ∙ pick_true (eqb (get_or l i 0) a) 0 _ (eq-eqb (get_or l i 0) a e)

  pub unit_further :
      0 < n →
      i < length l →
      (get_or l i 0 ≡ a → ⊥) →
      unit_place a n (drop i l) ≡ span 1 (drop i l) + unit_place a (n - 1) (drop (i + span 1 (drop i l)) l)
  unit_further h k e = unit_step h k ∙ pick_false (eqb (get_or l i 0) a) 0 _ (ne_eqb (get_or l i 0) a e)

-- Trees one after another take the sum of their numbers.
span_add : (p q : ℕ) (l : List ℕ) → span (p + q) l ≡ span p l + span q (drop (span p l) l)
span_add zero q [] = rw (zero-add q, span_none [], zero-add (span q []))
span_add zero q (x ∷ l) = rw (zero-add q, span_none (x ∷ l), zero-add (span q (x ∷ l)))
span_add (suc p) q [] = rw (span_over (suc p + q), span_over (suc p), span_over q)
span_add (suc p) q (x ∷ l) =
    let turned : p + q + arity x ≡ p + arity x + q = omega arith in
    let n = span (p + arity x) l in
    rw (suc-add p q, span_more (p + q) x l, span_more p x l, turned, suc-add n (span q (drop n l))) (ap suc (span_add (p + arity x) q l))

module _ (n i : ℕ) (l : List ℕ) where
  pub span_further : 0 < n → span n (drop i l) ≡ span 1 (drop i l) + span (n - 1) (drop (i + span 1 (drop i l)) l)
  span_further h =
      let one : n ≡ 1 + (n - 1) = omega arith in
      ap (λ k. span k (drop i l)) one ∙ span_add 1 (n - 1) (drop i l)
      ∙ ap (λ s. span 1 (drop i l) + span (n - 1) s) (drop-drop (span 1 (drop i l)) i l)

  pub span_some : 0 < n → i < length l → 1 ≤ span n (drop i l)
  span_some h k = omega (arith, span_step n i l h k)

-- Whether one of so many trees is a number itself, by the place of the first.
module _ (a n : ℕ) (l : List ℕ) where
  pub place_some : unit_place a n l < span n l → true ≡ among a n l
  unfolding among
  place_some h = sym (lt-ltb (unit_place a n l) (span n l) h)

  pub place_none : span n l ≤ unit_place a n l → false ≡ among a n l
  unfolding among
  place_none h = sym (le-ltb (unit_place a n l) (span n l) h)

-- Trees that all share a number.
module _ (a n i : ℕ) (l : List ℕ) where
  pub share_none : n ≡ 0 → all_share a n (drop i l) ≡ true
  unfolding all_share
  share_none h = ap (λ m. all_share a m (drop i l)) h ∙ walk_none _ true (drop i l)

  pub share_end : length l ≤ i → all_share a n (drop i l) ≡ true
  unfolding all_share
  share_end h = walk_end _ true n i l h

  pub share_step :
      0 < n →
      i < length l →
      all_share a n (drop i l) ≡ (shares_here a (drop i l) && all_share a (n - 1) (drop (i + span 1 (drop i l)) l))
  unfolding all_share
  share_step h k = walk_step _ true n i l h k

-- The groups among trees.
module _ (n i : ℕ) (l : List ℕ) where
  pub groups_none : n ≡ 0 → groups_in n (drop i l) ≡ 0
  unfolding groups_in
  groups_none h = ap (λ m. groups_in m (drop i l)) h ∙ walk_none _ 0 (drop i l)

  pub groups_end : length l ≤ i → groups_in n (drop i l) ≡ 0
  unfolding groups_in
  groups_end h = walk_end _ 0 n i l h

  pub groups_step :
      0 < n →
      i < length l →
      groups_in n (drop i l) ≡ group_here (get_or l i 0) + groups_in (n - 1) (drop (i + span 1 (drop i l)) l)
  unfolding groups_in
  groups_step h k = rw (← first_left i l) (walk_step _ 0 n i l h k)

module _ (a n i : ℕ) (l : List ℕ) (h : 0 < n) (k : i < length l) where
  pub share_fails : shares_here a (drop i l) ≡ false → all_share a n (drop i l) ≡ false
  share_fails e = share_step a n i l h k ∙ rw e

  pub share_further : shares_here a (drop i l) ≡ true → all_share a n (drop i l) ≡ all_share a (n - 1) (drop (i + span 1 (drop i l)) l)
  share_further e = share_step a n i l h k ∙ rw e

-- The number of groups where all trees share, and else 0.
shared_or_0 : (b : Bool) (x : ℕ) → pick b x 0 ≡ maybe 0 (λ y. y) (only_if b x)
unfolding pick maybe only_if
shared_or_0 true x = refl
shared_or_0 false x = refl

module _ (a n : ℕ) (l : List ℕ) where
  pub sharing_some : {x : ℕ} → some x ≡ only_if (all_share a n l) (groups_in n l) → sharing a n l ≡ x
  unfolding sharing maybe
  sharing_some {x} e = shared_or_0 (all_share a n l) (groups_in n l) ∙ rw (sym e)

  pub sharing_none : none ≡ only_if (all_share a n l) (groups_in n l) → sharing a n l ≡ 0
  unfolding sharing maybe
  sharing_none e = shared_or_0 (all_share a n l) (groups_in n l) ∙ rw (sym e)

  pub sharing_all : all_share a n l ≡ true → sharing a n l ≡ groups_in n l
  unfolding sharing
  sharing_all e = pick_true _ (groups_in n l) 0 e

  pub sharing_not : all_share a n l ≡ false → sharing a n l ≡ 0
  unfolding sharing
  sharing_not e = pick_false _ (groups_in n l) 0 e
