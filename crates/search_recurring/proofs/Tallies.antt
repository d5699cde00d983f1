-- Laws of tallies: a literal's option occurs around it where the option is counted twice.
use mathlib.Core.Bool.{Bool, true, false, ◌&&◌, ◌||◌, and-false}
use mathlib.Core.List.{List, [], ◌∷◌, ◌++◌}
use mathlib.Core.Logic.{⊎_elim}
use mathlib.Core.Path.{◌≡◌, refl, sym, ap, ap₂, subst, ◌∙◌}
use Prim.Native.Nat.{ℕ, zero, suc, ◌+◌, ◌-◌, ◌≤◌, ◌<◌}
use native.Mathlib.Numerals.{add-one}
use native.Mathlib.Omega.{arith}
use borrow.Author.Tests.{eqb-true, eqb-false, eq-eqb}
use lib.Dec.{eqb}
use lib.ListN.{length, get_or, take, drop, set, replicate, length-replicate, get_or-replicate, length-set, take-append-drop}
use lib.Seq.{slice, slice_empty, slice-cons, take-take, drop-append-le, length-take-le, get_or-set_same, get_or-set_other}
use Rattle.model.specs.Base.{pick, any}
use Rattle.model.specs.Limits.{kind_factor}
use Rattle.model.specs.Code.{value}
use Rattle.theory_forms.specs.Lists.{any_append}
use Rattle.theory_forms.specs.Logic.{either, and_join, or_right, pick_true, pick_keeps}
use Rattle.theory_forms.specs.Numbers.{value_small}
use Rattle.theory_forms.specs.Scan.{is_literal}
use Rattle.rule_spread.specs.Assigning.{names, spreads_from}
use Rattle.search_recurring.specs.Recurring.{up, tally, Tallied}

-- One more than none or one, and than two.
up_few : (n : ℕ) → n < 2 → n + 1 ≡ up n
unfolding up
up_few zero h = refl
up_few (suc n) h = omega arith

up_full : (n : ℕ) → 2 ≤ n → n ≤ 2 → up n ≡ n
unfolding up
up_full zero h k = absurd (omega arith)
up_full (suc n) h k = omega arith

module _ (p : ℕ → Bool) where
  -- One more is two where there was one already.
  up_told : (xs : List ℕ) → eqb (up (tally p xs)) 2 ≡ any p xs
  unfolding up tally any pick
  up_told [] = refl
  up_told (x ∷ xs) = go (p x) (tally p xs) (up_told xs)
    where
      go : (b : Bool) (n : ℕ) → eqb (up n) 2 ≡ any p xs → eqb (up (pick b (up n) n)) 2 ≡ (b || any p xs)
      go true zero h = refl
      go true (suc n) h = refl
      go false n h = h

  -- Around one that passes the test another does where two are counted.
  around_told : (xs : List ℕ) {x : ℕ} (ys : List ℕ) → p x ≡ true → eqb (tally p (xs ++ x ∷ ys)) 2 ≡ (any p xs || any p ys)
  unfolding tally any pick
  around_told [] ys e = rw e (up_told ys)
  around_told (z ∷ xs) {x} ys e = go (p z) (tally p (xs ++ x ∷ ys))
      (up_told (xs ++ x ∷ ys) ∙ any_append p xs (x ∷ ys) ∙ or_right (any p xs) (rw e)) (around_told xs ys e)
    where
      go :
          (b : Bool) (n : ℕ) →
          eqb (up n) 2 ≡ true →
          eqb n 2 ≡ (any p xs || any p ys) →
          eqb (pick b (up n) n) 2 ≡ ((b || any p xs) || any p ys)
      go true n some_one h = some_one
      go false n some_one h = h

  -- No tally is past two.
  tally_few : (xs : List ℕ) → tally p xs ≤ 2
  unfolding tally pick up
  tally_few [] = omega arith
  tally_few (x ∷ xs) = go (p x) (tally p xs) (tally_few xs)
    where
      go : (b : Bool) (n : ℕ) → n ≤ 2 → pick b (up n) n ≤ 2
      go true zero h = omega arith
      go true (suc n) h = omega arith
      go false n h = h

-- The numbers between the head and an end: those before a place, the one there, and those after it.
cut_at : (a b : ℕ) (l : List ℕ) → 1 ≤ a → a < b → b ≤ length l → slice 1 b l ≡ slice 1 a l ++ get_or l a 0 ∷ slice (a + 1) b l
cut_at a b l one h k =
    let left : take a (take b l) ≡ take a l = take-take a b l (omega arith) in
    let right : slice a b l ≡ get_or l a 0 ∷ slice (a + 1) b l = slice-cons a b l 0 h k ∙ ap (λ n. get_or l a 0 ∷ slice n b l) (sym (add-one a)) in
    let parts : take b l ≡ take a l ++ get_or l a 0 ∷ slice (a + 1) b l = sym (take-append-drop a (take b l)) ∙ ap₂ ◌++◌ left right in
    ap (drop 1) parts ∙ drop-append-le 1 (take a l) (get_or l a 0 ∷ slice (a + 1) b l) (omega (arith, length-take-le a l (omega arith)))

-- The option of a literal occurs around it where it is counted twice.
pub twice_spreads :
    {a b : ℕ} {l t : List ℕ} →
    Tallied 1 b l t →
    1 ≤ a →
    a < b →
    b ≤ length l →
    let x = get_or l a 0 in
    (is_literal x && eqb (get_or t (value x) 0) 2) ≡ spreads_from a b l
unfolding spreads_from names
twice_spreads {a} {b} {l} {t} w one h k = go (is_literal x) refl
  where
    x : ℕ
    x = get_or l a 0

    go :
        (c : Bool) →
        is_literal x ≡ c →
        (c && eqb (get_or t (value x) 0) 2) ≡ (c && (any (names (value x)) (slice 1 a l) || any (names (value x)) (slice (a + 1) b l)))
    go true e = rw (w.counted (value x) (value_small x), cut_at a b l one h k)
        (around_told (names (value x)) (slice 1 a l) (slice (a + 1) b l) (rw (e, eq-eqb (value x) (value x) refl)))
    go false e = refl

-- At first nothing is counted.
pub tallied_none : (to : ℕ) (l : List ℕ) {t : List ℕ} → t ≡ replicate kind_factor 0 → Tallied to to l t
unfolding tally
tallied_none to l {t} e =
    record {
      long = ap length e ∙ length-replicate {A = ℕ} kind_factor 0;
      counted = λ v h. rw (e, slice_empty to l) (get_or-replicate kind_factor v 0 0 h);
    }

-- One number more, before those that are counted.
module _ {q to x : ℕ} {l t : List ℕ} (some_left : 1 < q) (within : q ≤ to) (long : to ≤ length l) (w : Tallied q to l t)
    (read : x ≡ get_or l (q - 1) 0) where
  one_before : (v : ℕ) → v < kind_factor → pick (names v x) (up (get_or t v 0)) (get_or t v 0) ≡ tally (names v) (slice (q - 1) to l)
  unfolding tally
  one_before v h =
      let next : suc (q - 1) ≡ q = omega arith in
      let parts : slice (q - 1) to l ≡ x ∷ slice q to l =
      slice-cons (q - 1) to l 0 (omega arith) long ∙ ap₂ (λ y n. y ∷ slice n to l) (sym read) next in
      rw (w.counted v h, parts)

  -- A number that is no literal changes nothing.
  pub tallied_other : is_literal x ≡ false → Tallied (q - 1) to l t
  unfolding names pick
  tallied_other e = record { long = w.long; counted = λ v h. rw e at (one_before v h) }

  -- A literal: its option is counted once more, up to two, and no other.
  module _ {o : ℕ} (own : o ≡ value x) where
    pub option_small : o < length t
    option_small = omega (arith, own, w.long, value_small x)

    other_option : (v : ℕ) → eqb v o ≡ false → get_or t v 0 ≡ pick (names v x) (up (get_or t v 0)) (get_or t v 0)
    unfolding names pick
    other_option v e = rw (← own, e, and-false (is_literal x))

    pub tallied_full : 2 ≤ get_or t o 0 → Tallied (q - 1) to l t
    tallied_full full =
        let few : get_or t o 0 ≤ 2 =
        subst (λ n. n ≤ 2) (sym (w.counted o (omega (arith, option_small, w.long)))) (tally_few (names o) (slice q to l)) in
        let own_option : (v : ℕ) → v ≡ o → get_or t v 0 ≡ pick (names v x) (up (get_or t v 0)) (get_or t v 0) =
        λ v e. rw e (sym (pick_keeps (λ n. n ≡ get_or t o 0) (names o x) (up_full (get_or t o 0) full few) refl)) in
        record {
          long = w.long;
          counted = λ v h. ⊎_elim (λ e. own_option v (eqb-true v o e)) (other_option v) (either (eqb v o)) ∙ one_before v h;
        }

    pub tallied_up : is_literal x ≡ true → get_or t o 0 < 2 → Tallied (q - 1) to l (set t o (get_or t o 0 + 1))
    unfolding names
    tallied_up e few =
        let n = get_or t o 0 in
        let told : names o x ≡ true = and_join e (eq-eqb o (value x) own) in
        let once : get_or (set t o (n + 1)) o 0 ≡ tally (names o) (slice (q - 1) to l) =
        get_or-set_same t o (n + 1) 0 option_small ∙ up_few n few ∙ sym (pick_true _ (up n) n told) ∙
        one_before o (omega (arith, option_small, w.long)) in
        record {
          long = length-set t o (n + 1) ∙ w.long;
          counted = λ v h. ⊎_elim
              (λ s. subst (λ k. get_or (set t o (n + 1)) k 0 ≡ tally (names k) (slice (q - 1) to l)) (sym (eqb-true v o s)) once)
              (λ d. get_or-set_other t o v (n + 1) 0 (eqb-false v o d) ∙ other_option v d ∙ one_before v h)
              (either (eqb v o));
        }
