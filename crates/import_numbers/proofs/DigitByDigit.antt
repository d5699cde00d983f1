-- Digits passed one after another: what is known of two numbers, and of one, by then.
use mathlib.Core.Bool.{Bool, true, false, ◌||◌, not, cond}
use mathlib.Core.List.{List, [], ◌∷◌}
use mathlib.Core.Logic.{⊎_elim}
use mathlib.Core.Path.{◌≡◌, refl, sym, ap, ◌∙◌}
use Prim.Native.Nat.{ℕ, suc, ◌+◌, ◌-◌, ◌*◌, ◌/◌, ◌%◌, ◌≤◌, ◌<◌}
use native.Mathlib.Numerals.{add-one}
use native.Mathlib.Omega.{arith}
use borrow.Author.Tests.{eq-eqb, ne_eqb, le-leb, lt-leb, eqb-true, eqb-false, ltb-true, ltb-false}
use lib.Dec.{eqb, leb, ltb}
use lib.ListN.{length, get_or, take}
use lib.Seq.{take_all, take-length}
use Rattle.std.specs.Prelude.{Some}
use Rattle.std.specs.Ordering.{is_le, is_some_and, nat_cmp}
use Rattle.std.specs.Cmp.Lexicographic.{slice_partial_cmp}
use Rattle.std.proofs.lemmas.Cmp.{same_from_slice_cmp_tested}
use Rattle.std.proofs.lemmas.Bool.Decides.{nat_tests}
use Rattle.model.specs.Base.{pick, all}
use Rattle.texts.specs.Decimals.{is_digit, is_decimal, number_from, number_in}
use Rattle.theory_forms.specs.Lists.{all_index}
use Rattle.theory_forms.specs.Logic.{either, and_join, and_split, pick_true, pick_false}
use Rattle.theory_texts.specs.Figures.{digit_range}
use Rattle.theory_texts.specs.Numbers.{decimal_digits, fewer_digits, stays_ahead, digit_more, part_smaller, last_digit}

digit_at : (a : List ℕ) (i : ℕ) → all is_digit a ≡ true → i < length a → (48 ≤ get_or a i 0) × (get_or a i 0 ≤ 57)
digit_at a i h n = digit_range (get_or a i 0) (all_index is_digit a i 0 h n)

-- A decimal by the number of its digits, and the first.
pub no_digit : (a : List ℕ) → length a ≡ 0 → false ≡ is_decimal a
unfolding is_decimal
no_digit [] h = refl
no_digit (x ∷ a) h = absurd (omega (arith, h))

pub one_digit : (a : List ℕ) → all is_digit a ≡ true → length a ≡ 1 → true ≡ is_decimal a
unfolding is_decimal
one_digit [] h n = absurd (omega (arith, n))
one_digit (x ∷ []) h n = sym (and_join h (or_true (not (eqb x 48))))
  where
    or_true : (b : Bool) → (b || true) ≡ true
    or_true true = refl
    or_true false = refl
one_digit (x ∷ y ∷ a) h n = absurd (omega (arith, n))

pub more_digits : (a : List ℕ) → all is_digit a ≡ true → (length a ≡ 0 → ⊥) → (length a ≡ 1 → ⊥) → not (eqb (get_or a 0 0) 48) ≡ is_decimal a
unfolding is_decimal
more_digits [] h n m = absurd (n refl)
more_digits (x ∷ []) h n m = absurd (m refl)
more_digits (x ∷ y ∷ a) h n m = sym (rw (h, ne_eqb (suc (length a)) 0 (λ e. omega (arith, e))) (or_false (not (eqb x 48))))
  where
    or_false : (b : Bool) → (b || false) ≡ b
    or_false true = refl
    or_false false = refl

-- Two decimals.
module _ (a b : List ℕ) (da : is_decimal a ≡ true) (db : is_decimal b ≡ true) where
  pub shorter : length a < length b → true ≡ leb (number_in a) (number_in b)
  shorter h = let n = fewer_digits a b da db h in sym (le-leb (number_in a) (number_in b) (omega arith))

  pub longer : length b < length a → false ≡ leb (number_in a) (number_in b)
  longer h = sym (lt-leb (number_in a) (number_in b) (fewer_digits b a db da h))

-- Two lists in the order of slices: by the first number that differs. Of as many digits, that is the order of the numbers that they spell.
upto : List ℕ → List ℕ → Bool
upto [] ys = true
upto (x ∷ xs) [] = false
upto (x ∷ xs) (y ∷ ys) = cond (eqb x y) (upto xs ys) (ltb x y)

is_upto : (xs ys : List ℕ) (r : Bool) → r ≡ is_some_and is_le (slice_partial_cmp (λ x y. Some (nat_cmp x y)) xs ys) → r ≡ upto xs ys
unfolding upto
is_upto = same_from_slice_cmp_tested nat_cmp is_le upto refl (λ _ _. refl) (λ _ _. refl) (λ x y xs ys o h. grind (arith, nat_tests))

upto_spelled :
    (p : ℕ) (a b : List ℕ) →
    all is_digit a ≡ true →
    all is_digit b ≡ true →
    length a ≡ length b →
    upto a b ≡ leb (number_from p a) (number_from p b)
unfolding upto number_from all
upto_spelled p [] [] da db long = sym (le-leb p p (omega arith))
upto_spelled p [] (y ∷ ys) da db long = absurd (omega (arith, long))
upto_spelled p (x ∷ xs) [] da db long = absurd (omega (arith, long))
upto_spelled p (x ∷ xs) (y ∷ ys) da db long =
    let s = and_split (is_digit x) (all is_digit xs) da in
    let t = and_split (is_digit y) (all is_digit ys) db in
    let r = digit_range x s.0 in
    let q = digit_range y t.0 in
    let rest : length xs ≡ length ys = omega (arith, long) in
    ⊎_elim
    (λ e. let same : x ≡ y = eqb-true x y e in rw (e, same) (upto_spelled (10 * p + (y - 48)) xs ys s.1 t.1 rest))
    (λ e. ⊎_elim
    (λ l. let less : x < y = ltb-true x y l in
    let ahead = stays_ahead (10 * p + (x - 48)) (10 * p + (y - 48)) xs ys (omega arith) (omega (arith, rest)) s.1 in
    ap (λ b. cond b (upto xs ys) (ltb x y)) e ∙ l ∙ sym (le-leb (number_from (10 * p + (x - 48)) xs) (number_from (10 * p + (y - 48)) ys) (omega (arith, ahead))))
    (λ l. let apart = eqb-false x y e in
    let more : y ≤ x = ltb-false x y l in
    let ahead = stays_ahead (10 * p + (y - 48)) (10 * p + (x - 48)) ys xs (omega (arith, apart, more)) (omega (arith, rest)) t.1 in
    ap (λ b. cond b (upto xs ys) (ltb x y)) e ∙ l ∙ sym (lt-leb (number_from (10 * p + (x - 48)) xs) (number_from (10 * p + (y - 48)) ys) ahead))
    (either (ltb x y)))
    (either (eqb x y))

pub compared :
    (a b : List ℕ) →
    is_decimal a ≡ true →
    is_decimal b ≡ true →
    length a ≡ length b →
    (r : Bool) →
    r ≡ is_some_and is_le (slice_partial_cmp (λ x y. Some (nat_cmp x y)) a b) →
    r ≡ leb (number_in a) (number_in b)
unfolding number_in
compared a b da db long r e = is_upto a b r e ∙ upto_spelled 0 a b (decimal_digits a da) (decimal_digits b db) long

-- A number divided by ten for each digit from the last one on.
module _ (a : List ℕ) (n left i last : ℕ) (digits : all is_digit a ≡ true) (more : i ≡ suc last) (within : i ≤ length a)
    (so_far : eqb n (number_in a) ≡ eqb left (number_in (take i a))) where
  by_last : eqb n (number_in a) ≡ pick (eqb (left % 10) (get_or a last 0 - 48)) (eqb (left / 10) (number_in (take last a))) false
  by_last =
      let r = digit_at a last digits (omega arith) in
      so_far
      ∙ ap (λ k. eqb left (number_in (take k a))) more
      ∙ ap (eqb left) (digit_more a last (omega arith))
      ∙ last_digit left (number_in (take last a)) (get_or a last 0 - 48) (omega arith)

  pub other_digit : (48 + left % 10 ≡ get_or a last 0 → ⊥) → false ≡ eqb n (number_in a)
  other_digit ne =
      let r = digit_at a last digits (omega arith) in
      sym (by_last ∙ pick_false _ _ _ (ne_eqb (left % 10) (get_or a last 0 - 48) (λ e. ne (omega (arith, e)))))

  pub same_digit : 48 + left % 10 ≡ get_or a last 0 → eqb n (number_in a) ≡ eqb (left / 10) (number_in (take last a))
  same_digit e =
      by_last ∙ pick_true _ _ _ (eq-eqb (left % 10) (get_or a last 0 - 48) (omega (arith, e)))

pub all_digits : (a : List ℕ) (n : ℕ) → eqb n (number_in a) ≡ eqb n (number_in (take (length a) a))
all_digits a n = ap (λ ds. eqb n (number_in ds)) (sym (take-length a))

pub digits_done : (a : List ℕ) (n left i : ℕ) → i ≤ 0 → eqb n (number_in a) ≡ eqb left (number_in (take i a)) → eqb left 0 ≡ eqb n (number_in a)
unfolding number_in number_from
digits_done a n left i h e = let z : i ≡ 0 = omega arith in sym (e ∙ ap (λ k. eqb left (number_in (take k a))) z)

-- A small number, digit by digit.
module _ (a : List ℕ) (n i : ℕ) (digits : all is_digit a ≡ true) (small : number_in a < 1000) (h : i < length a)
    (so_far : n ≡ number_in (take i a)) where
  pub number_fits : (n < 1000) × (48 ≤ get_or a i 0) × (10 * n + (get_or a i 0 - 48) < 1000)
  number_fits =
      let r = digit_at a i digits h in (
        omega (arith, part_smaller a i),
        r.0,
        omega (arith, part_smaller a (suc i), digit_more a i h),
      )

  pub number_more : 10 * n + (get_or a i 0 - 48) ≡ number_in (take (i + 1) a)
  number_more = rw (add-one i, so_far) (sym (digit_more a i h))

pub number_done : (a : List ℕ) (n i : ℕ) → length a ≤ i → n ≡ number_in (take i a) → n ≡ number_in a
number_done a n i h e = e ∙ ap number_in (take_all i a h)
