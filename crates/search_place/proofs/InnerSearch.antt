-- Inner children: where they begin, what the rules ask of them, and which rules have no use for them.
use mathlib.Core.Bool.{true, false, ◌&&◌, and-false}
use mathlib.Core.List.{List}
use mathlib.Core.Logic.{◌⊎◌, inl, inr}
use mathlib.Core.Option.{Option, none, some}
use mathlib.Core.Path.{◌≡◌, refl, sym, ap, subst, ◌∙◌}
use Prim.Native.Nat.{ℕ, zero, suc, ◌+◌, ◌≤◌, ◌<◌}
use native.Mathlib.Omega.{arith}
use borrow.Author.Tests.{eq-eqb, ne_eqb, le-leb, lt-ltb, ltb-true}
use lib.Dec.{eqb, ltb, leb}
use lib.ListN.{length, get_or, drop, length-drop}
use lib.Seq.{get_or-drop}
use Rattle.model.specs.Base.{pick, only_if, first_of, is_some, then}
use Rattle.model.specs.Forest.{Conn, and, Forest, size, after, ◌⊕◌, conjunction_at, literal_at}
use Rattle.model.specs.Code.{kind, children}
use Rattle.model.specs.Rules.{Family, absorbs, omits, unwraps, spreads, merges, drops}
use Rattle.model.specs.Rules.{change, absorb, omit, unwrap, spread, merge, lower, drop_member, rewrite}
use Rattle.model.specs.Strategy.{redex, least_j}
use Rattle.theory_forms.specs.Logic.{is_some_of, pick_keeps, either}
use Rattle.theory_forms.specs.Scan.{is_literal}
use Rattle.theory_reading.specs.Spans.{child_at}
use Rattle.theory_reading.specs.Stretches.{Stretch, forest_in}
use Rattle.theory_rewriting.specs.Heads.{Headed}
use Rattle.theory_rewriting.specs.Children.{Group, headed_group, group_children, first_left, child_room, child_conjunction}
use Rattle.theory_rewriting.specs.Turns.{family_at, family_15, family_applies}
use Rattle.rule_lift.specs.Asked.{literal_child}
use Rattle.theory_rewriting.specs.Children.{conjunction_group}
use Rattle.rule_lift.proofs.Lifting.{applies_nothing, applies_literal}
use Rattle.search_place.proofs.SearchLevels.{j_found, j_none}

-- Of the rules that name a child, but for 11, 12 and 14 an inner child other than 0 gives nothing.
abbrev Flat : Family → Type 0
Flat x = (c : Conn) (i j : ℕ) (k : Forest) → (j ≡ 0 → ⊥) → change x c i j k ≡ none

then_never : {A B : Type 0} (o : Option A) (f : A → Option B) → ((a : A) → f a ≡ none) → then o f ≡ none
unfolding then
then_never none f h = refl
then_never (some a) f h = h a

flat_unwraps : Flat unwraps
unfolding change unwrap only_if
flat_unwraps c i j k n = rw (ne_eqb j 0 n, and-false (eqb i 0))

flat_merges : Flat merges
unfolding change merge only_if
flat_merges c i j k n = then_never (conjunction_at (after i k)) _ (λ m. rw (ne_eqb j 0 n))

flat_drops : Flat drops
unfolding change drop_member omit lower only_if first_of
flat_drops c i j k n = rw (ne_eqb j 0 n)

-- The rules from 1 to 10, which look at the children and into none of them, and 15, which does so too; and 13.
abbrev pub Beside : ℕ → Type 0
Beside r = (r ≤ 10) ⊎ (r ≡ 15)

abbrev pub NoInner : ℕ → Type 0
NoInner r = Beside r ⊎ (r ≡ 13)

flat_family : (r : ℕ) → NoInner r → Flat (family_at r)
unfolding family_at change absorb omit spread only_if pick
flat_family r (inl (inl low)) =
    let absorbing : Flat absorbs = λ c i j k n. rw (ne_eqb j 0 n) in
    let omitting : Flat omits = λ c i j k n. rw (ne_eqb j 0 n) in
    let spreading : Flat spreads = λ c i j k n. then_never (literal_at (after i k)) _ (λ l. rw (ne_eqb j 0 n)) in
    rw (le-leb r 10 low)
    (pick_keeps Flat (leb r 3) absorbing (pick_keeps Flat (leb r 6) omitting (pick_keeps Flat (leb r 8) flat_unwraps spreading)))
flat_family r (inl (inr e)) = rw (e, family_15) flat_drops
flat_family r (inr e) = rw e flat_merges

module _ {r : ℕ} {l : List ℕ} (s : Stretch l) (h : Headed r l) (i : ℕ) where
  -- For such a rule the answer at 0 is the answer.
  pub flat_found :
      NoInner r →
      is_some (rewrite r i 0 (forest_in l)) ≡ true →
      (p : ℕ) →
      some (redex r p i 0) ≡ least_j r p i (forest_in l)
  flat_found flat t p = j_found r p (forest_in l) i 0 t (λ k m. absurd (omega arith))

  pub flat_none : NoInner r → is_some (rewrite r i 0 (forest_in l)) ≡ false → (p : ℕ) → none ≡ least_j r p i (forest_in l)
  unfolding is_some
  flat_none flat t p = j_none r p (forest_in l) i (λ j m. go j)
    where
      go : (j : ℕ) → is_some (rewrite r i j (forest_in l)) ≡ false
      go zero = t
      go (suc j) = family_applies h i (suc j) ∙ ap is_some (flat_family r flat h.conn i (suc j) h.children (λ e. omega arith))

  -- Rules 11 and 12: child i begins at a place.
  module _ {at : ℕ} (a : 11 ≤ r) (b : r ≤ 12) (there : i < children (get_or l 0 0)) (e : at ≡ child_at i l) where
    within : i < size h.children
    within = omega (arith, group_children (headed_group s h))

    conjunction_test : eqb (kind (get_or l at 0)) 3 ≡ is_some (conjunction_at (after i h.children))
    conjunction_test = rw e (child_conjunction (headed_group s h) i within)

    pub lifts_nothing : (kind (get_or l at 0) ≡ 3 → ⊥) → (p : ℕ) → none ≡ least_j r p i (forest_in l)
    lifts_nothing n p =
        j_none r p (forest_in l) i (λ j m. sym (applies_nothing s h i j a (omega arith) (sym conjunction_test ∙ ne_eqb (kind (get_or l at 0)) 3 n)))

    module _ (conj : kind (get_or l at 0) ≡ 3) where
      found : (m : Forest) × (conjunction_at (after i h.children) ≡ some m)
      found = is_some_of _ (sym conjunction_test ∙ eq-eqb (kind (get_or l at 0)) 3 conj)

      inner : Group (drop at l) and found.0 (after (suc i) h.children ⊕ h.rest) h.zeros
      inner =
          subst (λ n. Group (drop n l) and found.0 (after (suc i) h.children ⊕ h.rest) h.zeros) (sym e) (conjunction_group s h i found.1)

      count : children (get_or (drop at l) 0 0) ≡ children (get_or l at 0)
      count = ap children (first_left at l)

      asked :
          (j : ℕ) →
          (ltb j (children (get_or l at 0)) && is_literal (get_or l (at + child_at j (drop at l)) 0)) ≡ is_some (rewrite r i j (forest_in l))
      unfolding literal_child
      asked j =
          let here : literal_child j (drop at l) ≡ is_some (rewrite r i j (forest_in l)) = rw e (applies_literal s h i j found.1 a b) in
          rw (sym count, sym (get_or-drop at l (child_at j (drop at l)) 0)) here

      -- Where inner child j stands, and what the rule asks of it.
      pub inner_room : (j : ℕ) → j < children (get_or l at 0) → at + child_at j (drop at l) < length l
      inner_room j lt =
          let some_left : j < size found.0 = omega (arith, count, group_children inner) in
          omega (arith, child_room inner j (omega arith), length-drop at l)

      pub inner_test :
          (j : ℕ) →
          j < children (get_or l at 0) →
          is_literal (get_or l (at + child_at j (drop at l)) 0) ≡ is_some (rewrite r i j (forest_in l))
      inner_test j lt = rw (lt-ltb j (children (get_or l at 0)) lt) at (asked j)

      pub inner_none :
          ((j : ℕ) → j < children (get_or l at 0) → is_some (rewrite r i j (forest_in l)) ≡ false) →
          (p : ℕ) →
          none ≡ least_j r p i (forest_in l)
      inner_none h_below p = j_none r p (forest_in l) i (λ j m. go j (either (ltb j (children (get_or l at 0)))))
        where
          go :
              (j : ℕ) →
              (ltb j (children (get_or l at 0)) ≡ true) ⊎ (ltb j (children (get_or l at 0)) ≡ false) →
              is_some (rewrite r i j (forest_in l)) ≡ false
          go j (inl t) = h_below j (ltb-true j (children (get_or l at 0)) t)
          go j (inr t) = sym (asked j) ∙ ap (λ t. t && is_literal (get_or l (at + child_at j (drop at l)) 0)) t
